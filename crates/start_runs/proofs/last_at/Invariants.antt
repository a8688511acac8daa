-- `start_runs::last_at` meets its contract. The loop's invariant: the places from i to below j have a start just after them, and j a place p after it; the
-- measure is what is left of the array. Assumes nothing.
use Prim.Native.Nat.{◌+◌, ◌-◌, ◌≤◌}
use Rattle.words.proofs.Searches.{Missed}
use Rattle.start_runs.specs.Runs.{ends_in}
use Rattle.start_runs.proofs.last_at.Given as goal

abbrev pub invariant-loop-j : goal.invariant-loop-j
invariant-loop-j l = (l.i ≤ l.j) × (l.j + l.p ≤ 1000) × Missed (ends_in l.dist l.p) l.i l.j

abbrev pub decreases-loop-j : goal.decreases-loop-j
decreases-loop-j l = 1000 - l.j
