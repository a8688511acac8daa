-- `call_widths::look_widths` meets its contract. The loop's invariant: the walk has come to width p, the rows of the periods below p are written, and those
-- that have one are counted; the measure is how many widths are left. Assumes nothing.
use Prim.Native.Nat.{◌+◌, ◌-◌, ◌*◌, ◌≤◌}
use mathlib.Core.Path.{◌≡◌}
use lib.ListN.{length}
use Rattle.words.specs.Range.{count as count_of}
use Rattle.words.specs.Moves.{top_of}
use Rattle.row_cells.specs.Listing.{Listing}
use Rattle.call_periods.specs.Periods.{row_size}
use Rattle.step2_bits.specs.Sets.{flags, Empty}
use Rattle.steps.specs.Walk.{Walks}
use Rattle.call_widths.proofs.Onward.{up_to, some}
use Rattle.call_widths.proofs.look_widths.Given as goal

abbrev pub invariant-loop-p : goal.invariant-loop-p
invariant-loop-p l =
    Walks l.read l.n l.p l.top l.a l.small.words × Listing (row_size l.sight) l.initial.out (up_to l.read l.sight (l.p - 1)) l.rows l.out
    × (l.top ≡ top_of l.n) × (l.p ≤ l.top + 1) × (l.rows ≤ 1000 * (l.p - 1)) × (length l.count ≡ 1000) × Empty (flags l.found.words)
    × (l.periods ≡ count_of (some l.read l.sight) (l.p - 1) 1)

abbrev pub decreases-loop-p : goal.decreases-loop-p
decreases-loop-p l = l.top + 1 - l.p
