-- The loop over the positions of a run may stop where fewer than two whole periods are left: no later position gives a line. Assumes nothing.
use Prim.Native.Nat.{ℕ, zero, suc, ◌-◌, ◌≤◌, ◌<◌}
use mathlib.Core.Path.{◌≡◌, ap}
use native.Mathlib.Omega.{arith}
use Rattle.words.specs.Range.{gather}
use Rattle.words.proofs.Ranges.{gather_stop}
use Rattle.words_agree.specs.Agree.{whole_periods}
use Rattle.words_agree.specs.Lists.{line_by, lines_by}
use Rattle.words_agree.proofs.Words.{few_left, none_whole}
use Rattle.words_agree.proofs.ByRow.{line-none}

-- no more whole periods are left further on
few_later : (p i k b : ℕ) → i ≤ k → whole_periods p i b < 2 → whole_periods p k b < 2
few_later zero i k b l h = omega (arith, none_whole k b)
few_later (suc p) i k b l h = (few_left (suc p) k b (omega arith)).1 (omega (arith, (few_left (suc p) i b (omega arith)).0 h))

module _ (a b p i : ℕ) (low : a ≤ i) where
  pub stopped : i - a ≤ suc b - a → whole_periods p i b < 2 → lines_by a b p ≡ gather (line_by p b) (i - a) a
  unfolding lines_by
  stopped h few = gather_stop (line_by p b) (i - a) (suc b - a) a h (λ k l m. line-none p k b (few_later p i k b (omega arith) few))

  pub all-passed : i - a ≤ suc b - a → b < i → lines_by a b p ≡ gather (line_by p b) (i - a) a
  unfolding lines_by
  all-passed h m = ap (λ (d : ℕ). gather (line_by p b) d a) (omega arith)
