-- `bench_agrees::agree_all` meets its contract: the lines of all positions are passed, one after another. Assumes nothing.
use Rattle.words.specs.Range.{gather}
use Rattle.row_matches.specs.Matching.{nothing, Passes}
use Rattle.bench_agrees.specs.Agreement.{line_in}
use Rattle.bench_agrees.proofs.agree_all.Given as goal

abbrev pub invariant-loop-i : goal.invariant-loop-i
invariant-loop-i l = Passes (gather (line_in l.links.table.now l.p) l.i 1) l.lines nothing l.m
