-- `bench_accords::agree_run` meets its contract: the lines are passed position by position, until fewer than two whole periods are left. Assumes nothing.
use Prim.Native.Nat.{suc, ◌-◌, ◌≤◌}
use Rattle.words.specs.Range.{gather}
use Rattle.words_agree.specs.Lists.{line_by}
use Rattle.row_matches.specs.Matching.{Passes}
use Rattle.bench_accords.proofs.agree_run.Given as goal

abbrev pub invariant-loop-i : goal.invariant-loop-i
invariant-loop-i l = (l.i - l.a ≤ suc l.b - l.a) × Passes (gather (line_by l.p l.b) (l.i - l.a) l.a) l.list l.initial.m l.m
