-- The tables of the code, and the moved bits, are the definitions' at each letter and at each set: one test for each, which antt computes. Assumes nothing.
use Prim.Native.Nat.{ℕ, ◌+◌, ◌-◌, ◌*◌, ◌/◌, ◌%◌, ◌≤◌, ◌<◌}
use mathlib.Core.Path.{◌≡◌, refl, sym, ap, ◌∙◌}
use mathlib.Core.Bool.{Bool, not, ◌&&◌}
use lib.Dec.{eqb}
use mathlib.Core.List.{List, [], ◌∷◌}
use native.Mathlib.Omega.{arith}
use lib.ListN.{length, get_or}
use lib.Bits.{bit_and, bit_or}
use Rattle.bits.specs.Bits.{bit}
use Rattle.words.specs.Range.{every, sum, gather, cells}
use Rattle.words.proofs.Ranges.{every-same, length-cells, get_or_cells}
use Rattle.words_primers.specs.Bases.{set_in, letter_in, set_of, letter_for, matches, complement_of}
use Rattle.words_primers.proofs.Sets.{mask_lies}
use Rattle.base_sets.specs.Sets.{letter_sets}

-- the sets of A to Z, and of no byte before or after them
pub sets_laid_out : 1 ∷ 14 ∷ 2 ∷ 13 ∷ 0 ∷ 0 ∷ 4 ∷ 11 ∷ 0 ∷ 0 ∷ 12 ∷ 0 ∷ 3 ∷ 15 ∷ 0 ∷ 0 ∷ 0 ∷ 5 ∷ 6 ∷ 8 ∷ 0 ∷ 7 ∷ 9 ∷ 0 ∷ 10 ∷ 0 ∷ [] ≡ letter_sets
unfolding letter_sets cells gather set_of set_in
sets_laid_out = refl

pub sets-length : length letter_sets ≡ 26
unfolding letter_sets
sets-length = length-cells (λ k. set_of (65 + k)) 26 0

module _ (b : ℕ) where
  pub set_before : b < 65 → 0 ≡ set_of b
  unfolding every set_of set_in
  set_before h = every-same (λ k. 0) set_of 65 0 refl b (omega arith) h

  pub set-behind : 90 < b → b < 256 → 0 ≡ set_of b
  unfolding every set_of set_in
  set-behind h l = every-same (λ k. 0) set_of 165 91 refl b h l

  pub set-between : (t : List ℕ) → t ≡ letter_sets → 65 ≤ b → b ≤ 90 → get_or t (b - 65) 0 ≡ set_of b
  unfolding letter_sets
  set-between t e l h = let back : 65 + (0 + (b - 65)) ≡ b = omega arith in ap (λ (v : List ℕ). get_or v (b - 65) 0) e ∙ get_or_cells (λ k. set_of (65 + k)) 26 0 (b - 65) (omega arith) ∙ ap set_of back

-- the letters of the sixteen sets
abbrev pub letters : List ℕ
letters = 0 ∷ 65 ∷ 67 ∷ 77 ∷ 71 ∷ 82 ∷ 83 ∷ 86 ∷ 84 ∷ 87 ∷ 89 ∷ 72 ∷ 75 ∷ 68 ∷ 66 ∷ 78 ∷ []

-- the bits of a set, moved
abbrev pub moved : ℕ → ℕ
moved s = bit_or (bit_or (bit_or (bit_and s 1 * 8 % 256) (bit_and s 2 * 2 % 256)) (bit_and s 4 / 2)) (bit_and s 8 / 8)

module _ (s : ℕ) (small : s < 16) where
  pub letter_at : get_or letters s 0 ≡ letter_for s
  unfolding every letter_for letter_in
  letter_at = every-same (λ k. get_or letters k 0) letter_for 16 0 refl s (omega arith) small

  pub moved_is : moved s ≡ complement_of s
  unfolding every sum bit complement_of
  moved_is = every-same moved complement_of 16 0 refl s (omega arith) small

-- containment by masking; the empty set matches nothing
pub matched : (r p : ℕ) → r < 16 → p < 16 → matches r p ≡ not (eqb r 0) && eqb (bit_and r p) r
unfolding matches
matched r p a b = ap (λ (t : Bool). not (eqb r 0) && t) (sym (mask_lies r p a b))
