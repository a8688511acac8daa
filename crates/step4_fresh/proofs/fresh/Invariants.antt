-- `fresh` meets its contract. The loop's invariant: the first k positions are done. Assumes nothing.
use Rattle.step4_fresh.proofs.Begun.{Begun}
use Rattle.step4_fresh.proofs.fresh.Given as goal

abbrev pub invariant-loop-k : goal.invariant-loop-k
invariant-loop-k l = Begun l.read l.seen l.a l.small.words l.k
