-- Is a bit 1? What is so of an and, of twice a number and one more, of no bit, and of a number one bit of which was set. Assumes nothing.
use Prim.Native.Nat.{ℕ, suc, ◌+◌, ◌*◌, ◌/◌, ◌%◌, ◌^◌, ◌<◌, min}
use mathlib.Core.Path.{◌≡◌, refl, ap, ◌∙◌}
use mathlib.Core.Logic.{◌≢◌, ⊎_elim}
use mathlib.Core.Bool.{true, false, ◌&&◌}
use native.Mathlib.Omega.{arith}
use lib.Bits.{bit_and}
use lib.Dec.{eqb}
use borrow.Author.Tests.{eq-eqb, ne_eqb}
use Rattle.words.proofs.Tests.{lt_or_ge}
use Rattle.bits.specs.Bits.{bit, has, Bit}
use Rattle.bits.proofs.Digits.{bit_low, bit_half, bit_lt, bit-zero, bit_and_lem}

pub has_and : (a b j : ℕ) → has (bit_and a b) j ≡ has a j && has b j
unfolding has
has_and a b j = ap (λ (v : ℕ). eqb v 1) (bit_and_lem a b j) ∙ least (bit a j) (bit b j) (bit_lt a j) (bit_lt b j)
  where
    least : (p q : ℕ) → p < 2 → q < 2 → eqb (min p q) 1 ≡ eqb p 1 && eqb q 1
    least p q h l =
        ⊎_elim
        (λ a. let z : p ≡ 0 = omega arith in let m : min 0 q ≡ 0 = omega arith in rw (z, m) refl)
        (λ a. let o : p ≡ 1 = omega arith in let m : min 1 q ≡ q = omega arith in rw (o, m) refl)
        (lt_or_ge p 1)

pub has-none : (j : ℕ) → has 0 j ≡ false
unfolding has
has-none j = ap (λ (v : ℕ). eqb v 1) (bit-zero j)

-- each bit one place higher, and the lowest one set
pub has_first : (d : ℕ) → has (2 * d + 1) 0 ≡ true
unfolding has
has_first d = let e : (2 * d + 1) % 2 ≡ 1 = omega arith in ap (λ (v : ℕ). eqb v 1) (bit_low (2 * d + 1) ∙ e)

pub has-next : (d j : ℕ) → has (2 * d + 1) (suc j) ≡ has d j
unfolding has
has-next d j = let e : (2 * d + 1) / 2 ≡ d = omega arith in ap (λ (v : ℕ). eqb v 1) (bit_half (2 * d + 1) j ∙ ap (λ (v : ℕ). bit v j) e)

-- bit j was set, and no other
module _ (k was w j : ℕ) (B : Bit k was w j 1) where
  pub has-set : has w j ≡ true
  unfolding has
  has-set = ap (λ (v : ℕ). eqb v 1) B.hit

  pub has_other : (i : ℕ) → i ≢ j → has w i ≡ has was i
  unfolding has
  has_other i ne = ap (λ (v : ℕ). eqb v 1) (B.miss i ne)

-- as code tests it
module _ (w j : ℕ) where
  pub has_one : w / 2 ^ j % 2 ≡ 1 → has w j ≡ true
  unfolding has bit
  has_one e = eq-eqb _ 1 e

  pub has_not_one : w / 2 ^ j % 2 ≢ 1 → has w j ≡ false
  unfolding has bit
  has_not_one ne = ne_eqb _ 1 ne
