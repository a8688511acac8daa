-- `bench_accords::whole_periods` meets its contract: a period of 0 is never whole. Assumes nothing.
use mathlib.Core.Path.{sym, ap}
use Prim.Native.Nat.{ℕ, ◌/◌}
use native.Mathlib.Omega.{arith}
use Rattle.words_agree.specs.Agree.{whole_periods}
use Rattle.words_agree.proofs.Words.{none_whole}
use Rattle.bench_accords.proofs.whole_periods.Goals as goal

pub returns-then-p-eq0 : goal.returns-then-p-eq0
returns-then-p-eq0 c = rw c.if-p-eq0.true (sym (none_whole _ _))

pub returns : goal.returns
unfolding whole_periods
returns c = ap (λ (n : ℕ). n / c.args.p) (omega arith)
