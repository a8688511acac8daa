-- `call_tables::write_table` meets its contract. The loop's invariant: the walk has come to width v; the measure is how many widths are left. Assumes
-- nothing.
use Prim.Native.Nat.{◌+◌, ◌-◌, ◌≤◌}
use Rattle.steps.specs.Walk.{Walks}
use Rattle.call_tables.proofs.write_table.Given as goal

abbrev pub invariant-loop-v : goal.invariant-loop-v
invariant-loop-v l = (l.v ≤ l.w + 1) × Walks l.read l.n l.v l.w l.a l.small.words

abbrev pub decreases-loop-v : goal.decreases-loop-v
decreases-loop-v l = l.w + 1 - l.v
