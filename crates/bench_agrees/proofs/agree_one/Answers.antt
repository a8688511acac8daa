-- `bench_agrees::agree_one` meets its contract: no line where the position is no start, and else its line is passed. Assumes nothing.
use Rattle.row_matches.proofs.Matching.{passes_none, passed_passes}
use Rattle.bench_agrees.proofs.Lines.{line-none, line-some}
use Rattle.bench_agrees.proofs.agree_one.Goals as goal

pub returns-then-not-starts : goal.returns-then-not-starts
returns-then-not-starts c = rw (line-none _ _ _ (rw c.gap-d.ensures at c.if-not-starts.true)) (passes_none c.requires.2)

pub returns : goal.returns
returns c = rw (line-some _ _ _ (rw c.gap-d.ensures at c.if-not-starts.false), ← c.copies.ensures, c.pass_line.ensures) (passed_passes _ _ c.args.m c.requires.2)
