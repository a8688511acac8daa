-- The fronts of a primer that end at a position of a read, one position more at a time; the longest is the whole primer. Assumes nothing.
use Prim.Native.Nat.{ℕ, zero, suc, ◌+◌, ◌-◌, ◌*◌, ◌^◌, ◌≤◌, ◌<◌}
use mathlib.Core.Path.{◌≡◌, refl, sym, ap, ◌∙◌}
use mathlib.Core.Logic.{◌⊎◌, inl, inr}
use mathlib.Core.Bool.{Bool, true, false, ◌&&◌}
use mathlib.Core.List.{List}
use native.Mathlib.Omega.{arith}
use native.Mathlib.Nat.{lt_of_le_of_lt}
use lib.ListN.{length, get_or}
use lib.Bits.{bit_and, and_le_r}
use lib.Dec.{ltb}
use borrow.Author.Tests.{lt-ltb, le-ltb, ltb-true}
use Rattle.bits.specs.Bits.{has}
use Rattle.bits.proofs.Having.{has_and, has-none, has_first, has-next}
use Rattle.words.specs.Range.{every}
use Rattle.words.specs.Reads.{at}
use Rattle.words.proofs.Tests.{either, and_left, same_test}
use Rattle.words.proofs.Ranges.{every_more}
use Rattle.words_primers.specs.Bases.{set_of, matches}
use Rattle.words_primers.specs.Primers.{longest, lets_in, sits}
use Rattle.words_primers.proofs.Places.{lets_in_is, sits-inside}
use Rattle.primer_scans.specs.Fronts.{Lets, front, Fronts}

module _ (x u : List ℕ) where
  front-none : (k : ℕ) → front x u 0 k ≡ false
  unfolding front
  front-none k = rw (le-ltb k 0 (omega arith))

  -- a front of one letter
  front-first : (j : ℕ) → front x u (suc j) 0 ≡ lets_in x u (suc j) 0
  unfolding front every
  front-first j = let e : suc j - 0 ≡ suc j = omega arith in rw (lt-ltb 0 (suc j) (omega arith), e) (every_more (lets_in x u (suc j)) 0 0)

  -- one of a letter more
  front_longer : (j k : ℕ) → front x u (suc j) (suc k) ≡ front x u j k && lets_in x u (j - k) (suc k)
  unfolding front
  front_longer j k =
      let l : ltb (suc k) (suc j) ≡ ltb k j = same_test _ _ (λ t. lt-ltb k j (omega (arith, ltb-true (suc k) (suc j) t))) (λ t. lt-ltb (suc k) (suc j) (omega (arith, ltb-true k j t))) in
      let e : suc j - suc k ≡ j - k = omega arith in
      let z : 0 + suc k ≡ suc k = omega arith in
      rw (l, e) (ap (λ (b : Bool). ltb k j && b) (every_more (lets_in x u (j - k)) (suc k) 0 ∙ ap (λ (v : ℕ). every (lets_in x u (j - k)) (suc k) 0 && lets_in x u (j - k) v) z) ∙ join (ltb k j) _ _)
    where
      join : (a b c : Bool) → a && (b && c) ≡ (a && b) && c
      join true b c = refl
      join false b c = refl

  pub fronts_start : Fronts x u 0 0
  fronts_start = record { fits = omega arith; each = λ k h. has-none k ∙ sym (front-none k) }

  -- the next position has a letter of the set s, which the letters of m let in
  module _ (j w s m : ℕ) (F : Fronts x u j w) (L : Lets u s (length u) m) (small : m < 2 ^ longest) (here : set_of (at x (suc j)) ≡ s) where
    lets_here : (i k : ℕ) → i + k ≡ suc j → k < length u → has m k ≡ lets_in x u i k
    lets_here i k e h =
        L.each k h
        ∙ ap (λ (a : ℕ). matches a (set_of (get_or u k 0))) (sym here ∙ ap (λ (v : ℕ). set_of (at x v)) (sym e))
        ∙ sym (lets_in_is x u i k)

    longer : (k : ℕ) → k < length u → has (bit_and (2 * w + 1) m) k ≡ front x u (suc j) k
    unfolding front
    longer zero h = has_and (2 * w + 1) m 0 ∙ rw (has_first w) (lets_here (suc j) 0 (omega arith) h) ∙ sym (front-first j)
    longer (suc k) h = has_and (2 * w + 1) m (suc k) ∙ ap (λ (b : Bool). b && has m (suc k)) (has-next w k ∙ F.each k (omega arith)) ∙ go (either (front x u j k)) ∙ sym (front_longer j k)
      where
        go : (front x u j k ≡ true) ⊎ (front x u j k ≡ false) → front x u j k && has m (suc k) ≡ front x u j k && lets_in x u (j - k) (suc k)
        go (inl t) = ap (λ (b : Bool). front x u j k && b) (lets_here (j - k) (suc k) (omega (arith, ltb-true k j (and_left (ltb k j) _ t))) h)
        go (inr f) = rw f refl

    pub fronts_more : Fronts x u (suc j) (bit_and (2 * w + 1) m)
    fronts_more = record { fits = lt_of_le_of_lt (and_le_r (2 * w + 1) m) small; each = longer }

  -- the whole primer is its longest front
  pub front_whole : (j : ℕ) → 1 ≤ length u → length u ≤ j → j ≤ length x → front x u j (length u - 1) ≡ sits x u (j + 1 - length u)
  unfolding front
  front_whole j some a b =
      let e : suc (length u - 1) ≡ length u = omega arith in
      let p : j - (length u - 1) ≡ j + 1 - length u = omega arith in
      rw (lt-ltb (length u - 1) j (omega arith), e, p) (sym (sits-inside x u (j + 1 - length u) (omega arith)))

  pub front_short : (j : ℕ) → 1 ≤ length u → j < length u → front x u j (length u - 1) ≡ false
  unfolding front
  front_short j some a = rw (le-ltb (length u - 1) j (omega arith))
