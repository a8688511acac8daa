-- The fifteen letters and their sets: each letter stands for one set that is not empty, and each such set has one letter. Each law is one test over the code, or over the sixteen
-- sets, which antt computes. Assumes nothing.
use Prim.Native.Nat.{ℕ, ◌<◌}
use mathlib.Core.Path.{◌≡◌, refl, sym, ap, subst, ◌∙◌}
use mathlib.Core.Logic.{◌⊎◌, inl, inr, ◌≢◌}
use mathlib.Core.Bool.{Bool, true, false, ◌&&◌, cond}
use mathlib.Core.List.{List, [], ◌∷◌}
use native.Mathlib.Omega.{arith}
use lib.Dec.{eqb, ltb}
use borrow.Author.Tests.{eqb-true, eqb-false, ltb-true}
use Rattle.words.specs.Range.{every}
use Rattle.words.specs.Reads.{unread}
use Rattle.words.proofs.Tests.{either, and_left, and_right}
use Rattle.words.proofs.Ranges.{every-same}
use Rattle.words_primers.specs.Bases.{code, set_in, letter_in, set_of, letter_for}

-- a test of a letter and its set passes at each entry of such a list
abbrev each : (ℕ → ℕ → Bool) → List (ℕ × ℕ) → Bool
each f [] = true
each f (e ∷ l) = f e.0 e.1 && each f l

-- so it passes at a letter that has a set
at-letter : (f : ℕ → ℕ → Bool) (l : List (ℕ × ℕ)) → each f l ≡ true → (b : ℕ) → set_in l b ≢ 0 → f b (set_in l b) ≡ true
unfolding set_in
at-letter f [] t b ne = absurd (ne refl)
at-letter f (e ∷ l) t b ne = go (either (eqb b e.0)) (at-letter f l (and_right (f e.0 e.1) (each f l) t) b)
  where
    go : (eqb b e.0 ≡ true) ⊎ (eqb b e.0 ≡ false) → (set_in l b ≢ 0 → f b (set_in l b) ≡ true) → f b (set_in (e ∷ l) b) ≡ true
    go (inl q) h = rw q (subst (λ (v : ℕ). f v e.1 ≡ true) (sym (eqb-true b e.0 q)) (and_left (f e.0 e.1) (each f l) t))
    go (inr q) h = rw q (h (λ z. ne (ap (λ (v : Bool). cond v e.1 (set_in l b)) q ∙ z)))

module _ (b : ℕ) (own : set_of b ≢ 0) where
  -- the letter of its set is the letter
  pub letter-back : letter_for (set_of b) ≡ b
  unfolding set_of letter_for letter_in
  letter-back = eqb-true _ b (at-letter (λ v s. eqb (letter_in code s) v) code refl b own)

-- a set has four bits
pub set_small : (b : ℕ) → set_of b < 16
unfolding set_of
set_small b = go (either (eqb (set_in code b) 0))
  where
    go : (eqb (set_in code b) 0 ≡ true) ⊎ (eqb (set_in code b) 0 ≡ false) → set_in code b < 16
    go (inl z) = omega (arith, eqb-true (set_in code b) 0 z)
    go (inr n) = ltb-true (set_in code b) 16 (at-letter (λ v s. ltb s 16) code refl b (eqb-false (set_in code b) 0 n))

-- N is all four bases
pub unread-set : set_of unread ≡ 15
unfolding set_of set_in
unread-set = refl

-- the set of its letter is the set
pub set_back : (s : ℕ) → s < 16 → set_of (letter_for s) ≡ s
unfolding every set_of set_in letter_for letter_in
set_back s h = every-same (λ v. set_of (letter_for v)) (λ v. v) 16 0 refl s (omega arith) h
