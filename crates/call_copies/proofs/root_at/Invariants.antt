-- `call_copies::root_at` meets its contract. The loop's invariant: no length below d writes the motif; the measure is how many lengths are left up to the half.
-- Assumes nothing.
use Prim.Native.Nat.{◌+◌, ◌-◌, ◌≤◌}
use Rattle.call_copies.proofs.Roots.{Unwritten}
use Rattle.call_copies.proofs.root_at.Given as goal

abbrev pub invariant-loop-d : goal.invariant-loop-d
invariant-loop-d l = (1 ≤ l.d) × Unwritten l.read l.i l.p l.d

abbrev pub decreases-loop-d : goal.decreases-loop-d
decreases-loop-d l = l.half + 1 - l.d
