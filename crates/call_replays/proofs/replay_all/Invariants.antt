-- `call_replays::replay_all`: the loop's invariant. The table is the replay up to width v, the work rooms hold nothing, and the entries of the widths
-- below v are those before k. Assumes nothing.
use mathlib.Core.Path.{◌≡◌}
use Rattle.words.specs.Replay.{replay}
use Rattle.slots.specs.Slots.{view}
use Rattle.call_renames.specs.Blocks.{Splits}
use Rattle.call_renames.specs.Split.{Groups, Rooms}
use Rattle.call_replays.proofs.replay_all.Given as goal

abbrev pub invariant-loop-v : goal.invariant-loop-v
invariant-loop-v l = Groups l.n l.r.name × Rooms l.r.mark l.r.lead l.r.part × (view l.n l.r.name ≡ replay l.read l.log l.v) × Splits l.log l.v l.k
