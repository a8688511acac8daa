-- `call_replays::replay_all` meets its contract: each width goes on from the one before. Assumes nothing.
use mathlib.Core.Path.{sym, ◌∙◌}
use Rattle.words.proofs.Rule.{replay_start, replay-next}
use Rattle.words.proofs.Groups.{table-least}
use Rattle.call_renames.proofs.Marked.{splits_start}
use Rattle.call_replays.proofs.replay_all.Goals as goal

pub loop-v-init : goal.loop-v-init
loop-v-init c =
    let f = c.first_groups.ensures in
    let p = c.requires in (
      record { few = p.0.few; long = f.0; least = rw f.1 (table-least _ 1) },
      p.3,
      f.1 ∙ sym (replay_start _ _),
      splits_start _ _ p.0,
    )

pub loop-v-preserved : goal.loop-v-preserved
loop-v-preserved c =
    let i = c.loop-v.invariant in
    let e = c.replay_width-k.ensures in
    (e.0, e.1, replay-next _ _ _ c.loop-v.auto.v _ _ i.2 e.2, e.3)
