-- `bench_accords::runs_agree` meets its contract: the lines by all runs are passed, run after run. Assumes nothing.
use Rattle.words.specs.Range.{gather}
use Rattle.words_agree.specs.Lists.{lines_by_row}
use Rattle.row_matches.specs.Matching.{nothing, Passes}
use Rattle.bench_accords.proofs.runs_agree.Given as goal

abbrev pub invariant-loop-k : goal.invariant-loop-k
invariant-loop-k l = Passes (gather (lines_by_row l.runs) l.k 0) l.list nothing l.m
