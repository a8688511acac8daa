-- `bench_agrees::gap` meets its contract: the next position less this one. Assumes nothing.
use native.Mathlib.Omega.{arith}
use Rattle.words.specs.Reads.{at}
use Rattle.bench_links.proofs.Nexts.{next_known}
use Rattle.bench_agrees.proofs.Gaps.{gap-next}
use Rattle.bench_agrees.proofs.gap.Goals as goal

pub overflow_sub-result : goal.overflow_sub-result
overflow_sub-result c = let t = c.args.links.now.table.now in let i = c.args.i in
    omega (arith, (next_known t (at t i) i c.in-Some.ensures).1.later)

pub returns-in-Some : goal.returns-in-Some
returns-in-Some c = let t = c.args.links.now.table.now in let i = c.args.i in
    omega (arith, gap-next t i, (next_known t (at t i) i c.in-Some.ensures).0)

pub returns-in-None : goal.returns-in-None
returns-in-None c = let t = c.args.links.now.table.now in let i = c.args.i in
    omega (arith, gap-next t i, next_known t (at t i) i c.in-None.ensures)
