-- The replay of the read's own log goes on by one width: the log is well formed, and the names at each width are the read's table. Assumes nothing.
use Prim.Native.Nat.{ℕ, ◌+◌, ◌≤◌}
use mathlib.Core.Path.{◌≡◌, sym, ◌∙◌}
use mathlib.Core.List.{List}
use lib.ListN.{length, take}
use Rattle.words.specs.Groups.{table}
use Rattle.words.specs.Moves.{log}
use Rattle.words.specs.Replay.{after}
use Rattle.words.proofs.Logs.{log_well_formed}
use Rattle.words.proofs.Replay.{replay-least, replay-own}
use Rattle.words.proofs.Rule.{replay_start, replay-next}
use Rattle.slots.specs.Slots.{view}
use Rattle.call_judges.specs.Judge.{Formed}
use Rattle.call_judges.proofs.Formed.{formed_good}
use Rattle.call_renames.specs.Blocks.{Splits}
use Rattle.call_renames.specs.Split.{Groups, Rooms}
use Rattle.call_renames.proofs.Marked.{splits_start}
use Rattle.bench_widths.specs.Views.{widths_of}
use Rattle.bench_widths.specs.Reaching.{Own, Replays}
use Rattle.bench_widths.proofs.Reaching.{widths_some}

module _ {x l m s : List ℕ} (own : Own x l m s) where
  pub own_formed : Formed (length x) l
  own_formed = rw own.log (formed_good (length x) (log x) own.few (log_well_formed x))

  -- the groups of width 1
  pub replays_first : {name mark lead part : List ℕ} → length name ≡ 1000 → view (length x) name ≡ table x 1 → Rooms mark lead part → Replays x l 1 name mark lead part 0
  replays_first long e R =
      let names = e ∙ sym (replay_start x l) in
      record {
        groups = record { few = own.few; long = long; least = rw names (replay-least x l 1).0 };
        rooms = R;
        splits = splits_start (length x) l own_formed;
        names = names;
      }

  -- the names are the read's own table
  pub replays_table : {w : ℕ} {name mark lead part : List ℕ} {k : ℕ} → 1 ≤ w → w ≤ widths_of (length x) → Replays x l w name mark lead part k → take (length x) name ≡ table x w
  unfolding view
  replays_table {w} low high r = r.names ∙ rw own.log (replay-own x w low (widths_some x w low high).1)

-- one width more
pub replays_next : {x l name mark lead part name' mark' lead' part' : List ℕ} {k k' : ℕ} (w : ℕ) → 1 ≤ w → Replays x l w name mark lead part k
    → Groups (length x) name' × Rooms mark' lead' part' × (view (length x) name' ≡ after (view (length x) name) l w) × Splits l (w + 1) k'
    → Replays x l (w + 1) name' mark' lead' part' k'
replays_next {x} {l} w low r e =
    record { groups = e.0; rooms = e.1; splits = e.3; names = replay-next x l w low _ _ r.names e.2 }
