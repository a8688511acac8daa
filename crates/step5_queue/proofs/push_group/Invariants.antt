-- `step5_queue::push_group` meets its contract: the walk from the name by the distances puts the left neighbour of each position of the group
-- behind the others. The measure is what is left of the read. Assumes nothing.
use Prim.Native.Nat.{ℕ, ◌-◌}
use mathlib.Core.List.{List}
use Rattle.step5_queue.specs.Filling.{Group, Walked}
use Rattle.step5_queue.proofs.push_group.Given as goal

abbrev pub invariant-loop-d : goal.invariant-loop-d
invariant-loop-d l = (t : List ℕ) → Group t l.initial.a l.s l.had → Walked t l.s l.initial.a l.initial.k l.a l.k l.j l.d

abbrev pub decreases-loop-d : goal.decreases-loop-d
decreases-loop-d l = 1000 - l.j
