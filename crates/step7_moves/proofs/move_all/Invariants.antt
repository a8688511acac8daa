-- `move_all`: the loop's invariant. The rows are those after the places of the queue before q. Assumes nothing.
use Prim.Native.Nat.{◌-◌}
use Rattle.step7_moves.specs.Moving.{Moving}
use Rattle.step7_moves.proofs.move_all.Given as goal

abbrev pub invariant-loop-q : goal.invariant-loop-q
invariant-loop-q l = Moving l.n l.m l.w l.initial.a l.a (l.q - 1) l.made.parts l.made.groups
