-- `call_copies::stand_again`: the loop's invariant. The first k letters agree. Assumes nothing.
use Prim.Native.Nat.{◌+◌}
use Rattle.words.proofs.Stretches.{Alike}
use Rattle.call_copies.proofs.stand_again.Given as goal

abbrev pub invariant-loop-k : goal.invariant-loop-k
invariant-loop-k l = Alike l.read l.k l.i (l.i + l.p)
