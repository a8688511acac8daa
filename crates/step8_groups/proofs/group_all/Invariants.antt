-- `step8_groups::group_all`: the loop's invariant, for each table and each queue that it may be asked of. The groups before q had their turns. Assumes nothing.
use Prim.Native.Nat.{ℕ, ◌-◌}
use mathlib.Core.List.{List}
use Rattle.step8_groups.specs.Turns.{TurnedTo}
use Rattle.step8_groups.specs.Groups.{Turnable}
use Rattle.step8_groups.proofs.group_all.Given as goal

abbrev pub invariant-loop-q : goal.invariant-loop-q
invariant-loop-q l = (t S : List ℕ) → Turnable t S l.n l.h l.g l.initial.a → TurnedTo t S l.g (l.q - 1) l.initial.a l.a
