-- Sets of bases as four bits: what it means that one lies inside another, that masking tells it, and that the complement keeps it. Each law of bits is one test over the
-- sixteen sets, or over all pairs of them, which antt computes. Assumes nothing.
use Prim.Native.Nat.{ℕ, ◌-◌, ◌<◌}
use mathlib.Core.Path.{◌≡◌, refl, sym, ap}
use mathlib.Core.Logic.{◌≢◌, ◌↔◌}
use mathlib.Core.Bool.{Bool, true, false, ◌&&◌, ◌||◌, not}
use native.Mathlib.Omega.{arith}
use lib.Bits.{bit_and}
use lib.Dec.{eqb, ltb}
use borrow.Author.Tests.{eqb-false, ne_eqb, ltb-true, not-true}
use Rattle.bits.specs.Bits.{bit, has}
use Rattle.words.specs.Range.{every, sum}
use Rattle.words.proofs.Tests.{and_left, and_right, and_both, clash}
use Rattle.words.proofs.Ranges.{every-at, every_of, every-same}
use Rattle.words_primers.specs.Bases.{lies, matches, complement_of}

-- two tests agree
abbrev agree : Bool → Bool → Bool
agree true b = b
agree false b = not b

agree_is : (a b : Bool) → agree a b ≡ true → a ≡ b
agree_is true b t = sym t
agree_is false true t = t
agree_is false false t = refl

-- a test passes at every set, and at every two
at_set : (f : ℕ → Bool) → every f 16 0 ≡ true → (s : ℕ) → s < 16 → f s ≡ true
at_set f t s h = every-at f 16 0 t s (omega arith) h

at-sets : (f : ℕ → ℕ → Bool) → every (λ r. every (f r) 16 0) 16 0 ≡ true → (r p : ℕ) → r < 16 → p < 16 → f r p ≡ true
at-sets f t r p h l = at_set (f r) (at_set (λ v. every (f v) 16 0) t r h) p l

-- each base of r is one of p
abbrev pub Among : ℕ → ℕ → Type 0
Among r p = (k : ℕ) → k < 4 → has r k ≡ true → has p k ≡ true

module _ (r p : ℕ) where
  pub lies_means : (lies r p ≡ true) ↔ Among r p
  unfolding lies
  lies_means = (
    λ t k h. then (has r k) (has p k) (every-at (λ j. not (has r j) || has p j) 4 0 t k (omega arith) h),
    λ f. every_of (λ j. not (has r j) || has p j) 4 0 (λ k a b. both (has r k) (has p k) (f k b)),
  )
    where
      then : (a b : Bool) → not a || b ≡ true → a ≡ true → b ≡ true
      then true b t e = t
      then false b t e = clash e refl

      both : (a b : Bool) → (a ≡ true → b ≡ true) → not a || b ≡ true
      both true b f = f refl
      both false b f = refl

  -- a read's letter matches a primer's exactly if it is of the code and each of its bases is one of the primer's
  pub matches_means : (matches r p ≡ true) ↔ ((r ≢ 0) × Among r p)
  unfolding matches
  matches_means = (
    λ t. (eqb-false r 0 (not-true (eqb r 0) (and_left (not (eqb r 0)) (lies r p) t)), lies_means.0 (and_right (not (eqb r 0)) (lies r p) t)),
    λ m. and_both (not (eqb r 0)) (lies r p) (ap not (ne_eqb r 0 m.0)) (lies_means.1 m.1),
  )

module _ (r p : ℕ) (small : r < 16) (low : p < 16) where
  -- containment by masking
  pub mask_lies : eqb (bit_and r p) r ≡ lies r p
  unfolding every lies has bit
  mask_lies = agree_is _ _ (at-sets (λ a b. agree (eqb (bit_and a b) a) (lies a b)) refl r p small low)

  -- the mask test, in the document's words; the empty set passes the mask alone, and is no letter's
  pub mask_means : (not (eqb r 0) && eqb (bit_and r p) r ≡ true) ↔ ((r ≢ 0) × Among r p)
  unfolding matches
  mask_means = let m = matches_means r p in rw mask_lies m

  -- complements lie inside one another as the sets do
  pub complement_matches : matches (complement_of r) (complement_of p) ≡ matches r p
  unfolding every sum matches lies has bit complement_of
  complement_matches = agree_is _ _ (at-sets (λ a b. agree (matches (complement_of a) (complement_of b)) (matches a b)) refl r p small low)

-- the set of all bases matches itself alone
pub all_match : (p : ℕ) → p < 16 → matches 15 p ≡ eqb p 15
unfolding every matches lies has bit
all_match p low = agree_is _ _ (at_set (λ v. agree (matches 15 v) (eqb v 15)) refl p low)

pub complement_none : complement_of 0 ≡ 0
unfolding sum bit complement_of
complement_none = refl

module _ (s : ℕ) (small : s < 16) where
  pub complement_small : complement_of s < 16
  unfolding every sum bit complement_of
  complement_small = ltb-true (complement_of s) 16 (at_set (λ v. ltb (complement_of v) 16) refl s small)

  pub complement_twice : complement_of (complement_of s) ≡ s
  unfolding every sum bit complement_of
  complement_twice = every-same (λ v. complement_of (complement_of v)) (λ v. v) 16 0 refl s (omega arith) small

  -- the complement of a set has T where the set has A, G where it has C, and so on
  pub complement_has : (k : ℕ) → k < 4 → has (complement_of s) k ≡ has s (3 - k)
  unfolding every sum has bit complement_of
  complement_has k h =
      agree_is _ _
      (every-at (λ j. agree (has (complement_of s) j) (has s (3 - j))) 4 0
      (at_set (λ v. every (λ j. agree (has (complement_of v) j) (has v (3 - j))) 4 0) refl s small)
      k (omega arith) h)
