-- `bench_agrees::part_end` meets its contract: the rows passed have the number, and the one it stops at has not. Assumes nothing.
use Rattle.words.proofs.Searches.{Missed}
use Rattle.bench_agrees.specs.Parts.{differs}
use Rattle.bench_agrees.proofs.part_end.Given as goal

abbrev pub invariant-loop-k : goal.invariant-loop-k
invariant-loop-k l = Missed (differs l.c l.list l.j l.w) l.from l.k
