-- How many numbers of a range from 1 on pass a test, one turn more. Assumes nothing.
use Prim.Native.Nat.{ℕ, ◌+◌}
use mathlib.Core.Path.{◌≡◌, refl, ap, ◌∙◌}
use mathlib.Core.Bool.{Bool}
use native.Mathlib.Numerals.{add-one}
use native.Mathlib.Omega.{arith}
use Rattle.words.specs.Range.{sum, bit, count}
use Rattle.words.proofs.Sums.{sum_more}

module _ (p : ℕ → Bool) where
  pub count_none : count p 0 1 ≡ 0
  unfolding count sum
  count_none = refl

  pub count_turn : (i k : ℕ) (b : Bool) → k ≡ count p i 1 → b ≡ p (i + 1) → k + bit b ≡ count p (i + 1) 1
  unfolding count
  count_turn i k b e q =
      let f : ℕ → ℕ = λ j. bit (p j) in
      let g : sum f (i + 1) 1 ≡ sum f i 1 + f (i + 1) =
      ap (λ (v : ℕ). sum f v 1) (add-one i) ∙ sum_more f i 1 ∙ ap (λ (v : ℕ). sum f i 1 + f v) (omega arith) in
      omega (arith, e, g, ap bit q)
