-- The bits of a number: numbers with the same bits are equal, what a bit of an or, of an and, of a power, and of a number without its lowest bit is, and which
-- the lowest bit is. Each by induction on the digits, lowest first. Assumes nothing.
use Prim.Native.Nat.{ℕ, zero, suc, ◌+◌, ◌-◌, ◌*◌, ◌/◌, ◌%◌, ◌^◌, ◌≤◌, ◌<◌, min, max}
use mathlib.Core.Path.{◌≡◌, refl, sym, ap, ap₂, ◌∙◌}
use mathlib.Core.Logic.{◌≢◌, ⊎_elim}
use native.Mathlib.Omega.{arith}
use native.Mathlib.Nat.{add-zero, div-one, zero-div, mod-lt, div-add-mod', mul-div_cancel, mul-mod_left, max-zero, lt_of_lt_of_le, lt_of_le_of_lt}
use lib.Pow.{shr-shr, shl_exact, shl_lt, pow_mono}
use lib.Arith.{lt-one, digits_mod}
use lib.Bits.{bit_and, bit_or, and_step, and_self, and_le_l, and_shr, or_step, or_shr, or_lt, shifted_half, shifted_even}
use lib.Count.{count_trailing_zeros}
use Rattle.words.proofs.Tests.{lt_or_ge}
use Rattle.bits.specs.Bits.{bit, Bit}

-- a bit is not both
pub one_zero : ◌≡◌ {A = ℕ} 1 0 → ⊥
one_zero e = omega arith

-- the lowest bit, and the others
pub bit_low : (n : ℕ) → bit n 0 ≡ n % 2
unfolding bit
bit_low n = ap (λ (x : ℕ). x % 2) (div-one n)

pub bit_half : (n j : ℕ) → bit n (suc j) ≡ bit (n / 2) j
unfolding bit
bit_half n j = let e : suc j ≡ 1 + j = omega arith in ap (λ (k : ℕ). n / 2 ^ k % 2) e ∙ ap (λ (x : ℕ). x % 2) (sym (shr-shr n 1 j))

pub bit_lt : (n j : ℕ) → bit n j < 2
unfolding bit
bit_lt n j = mod-lt (n / 2 ^ j) (omega arith)

pub bit-zero : (j : ℕ) → bit 0 j ≡ 0
unfolding bit
bit-zero j = ap (λ (x : ℕ). x % 2) (zero-div (2 ^ j))

pub bit_full : (n j : ℕ) → bit n j ≡ 1 → n ≢ 0
bit_full n j e z = one_zero (sym e ∙ ap (λ (x : ℕ). bit x j) z ∙ bit-zero j)

-- numbers with the same bits are equal
pub bits_same : (k a b : ℕ) → a < 2 ^ k → b < 2 ^ k → ((j : ℕ) → j < k → bit a j ≡ bit b j) → a ≡ b
bits_same zero a b h l same = lt-one h ∙ sym (lt-one l)
bits_same (suc k) a b h l same =
    sym (div-add-mod' a 2)
    ∙ ap₂ (λ (x y : ℕ). x * 2 + y)
    (bits_same k (a / 2) (b / 2) (omega arith) (omega arith) (λ j m. sym (bit_half a j) ∙ same (suc j) (omega arith) ∙ bit_half b j))
    (sym (bit_low a) ∙ same 0 (omega arith) ∙ bit_low b)
    ∙ div-add-mod' b 2

bits_none : (k a : ℕ) → a < 2 ^ k → ((j : ℕ) → j < k → bit a j ≡ 0) → a ≡ 0
bits_none k a h none = bits_same k a 0 h (omega (arith, h)) (λ j l. none j l ∙ sym (bit-zero j))

-- a bit of an or
bit_or_lem : (a b j : ℕ) → bit (bit_or a b) j ≡ max (bit a j) (bit b j)
unfolding bit
bit_or_lem a b j =
    ap (λ (x : ℕ). x % 2) (or_shr a b j ∙ or_step (a / 2 ^ j) (b / 2 ^ j)) ∙ digits_mod (bit_or (a / 2 ^ j / 2) (b / 2 ^ j / 2)) (omega arith)

-- a bit of an and
pub bit_and_lem : (a b j : ℕ) → bit (bit_and a b) j ≡ min (bit a j) (bit b j)
unfolding bit
bit_and_lem a b j =
    ap (λ (x : ℕ). x % 2) (and_shr a b j ∙ and_step (a / 2 ^ j) (b / 2 ^ j)) ∙ digits_mod (bit_and (a / 2 ^ j / 2) (b / 2 ^ j / 2)) (omega arith)

-- the bits of a power of two
power_same : (j : ℕ) → bit (1 * 2 ^ j) j ≡ 1
power_same zero = bit_low 1
power_same (suc j) = bit_half (1 * 2 ^ suc j) j ∙ ap (λ (x : ℕ). bit x j) (shifted_half 1 j) ∙ power_same j

power_other : (i j : ℕ) → j ≢ i → bit (1 * 2 ^ i) j ≡ 0
power_other zero zero ne = absurd (ne refl)
power_other zero (suc j) ne = bit_half 1 j ∙ bit-zero j
power_other (suc i) zero ne = bit_low (1 * 2 ^ suc i) ∙ shifted_even 1 i
power_other (suc i) (suc j) ne = bit_half (1 * 2 ^ suc i) j ∙ ap (λ (x : ℕ). bit x j) (shifted_half 1 i) ∙ power_other i j (λ e. ne (ap suc e))

-- bit j alone, as the code has it
abbrev pub single : ℕ → ℕ
single j = 1 * 2 ^ j % 2 ^ 64

pub or_bit : (k was j : ℕ) → j < k → k ≤ 64 → was < 2 ^ k → Bit k was (bit_or was (single j)) j 1
or_bit k was j h l b =
    rw (shl_exact {a = 1} 1 j 64 (omega arith) (omega arith))
    (record {
      fits = or_lt k was (1 * 2 ^ j) b (lt_of_lt_of_le (shl_lt 1 j (omega arith)) (pow_mono (omega arith)));
      hit = bit_or_lem was (1 * 2 ^ j) j ∙ ap (max (bit was j)) (power_same j) ∙ omega (arith, bit_lt was j);
      miss = λ i ne. bit_or_lem was (1 * 2 ^ j) i ∙ ap (max (bit was i)) (power_other j i ne) ∙ max-zero (bit was i);
    })

-- a number without its lowest bit
abbrev pub cleared : ℕ → ℕ
cleared n = bit_and n (n - 1)

-- z is the lowest bit of n, and the only one that is cleared
pub record Lowest (n z : ℕ) : Type 0 where
  pub below : (j : ℕ) → j < z → bit n j ≡ 0
  pub hit : bit n z ≡ 1
  pub gone : bit (cleared n) z ≡ 0
  pub rest : (j : ℕ) → j ≢ z → bit (cleared n) j ≡ bit n j

twice_low : (x : ℕ) → bit (x * 2) 0 ≡ 0
twice_low x = bit_low (x * 2) ∙ mul-mod_left x 2

twice_half : (x j : ℕ) → bit (x * 2) (suc j) ≡ bit x j
twice_half x j = bit_half (x * 2) j ∙ ap (λ (y : ℕ). bit y j) (mul-div_cancel x (omega arith))

module _ (n : ℕ) (odd : n % 2 ≡ 1) where
  cleared_odd : cleared n ≡ n / 2 * 2
  cleared_odd =
      let a : (n - 1) / 2 ≡ n / 2 = omega arith in
      let b : min (n % 2) ((n - 1) % 2) ≡ 0 = omega arith in
      and_step n (n - 1) ∙ ap₂ (λ (x y : ℕ). bit_and (n / 2) x * 2 + y) a b ∙ add-zero _ ∙ ap (λ (x : ℕ). x * 2) (and_self (n / 2))

  lowest_odd : Lowest n 0
  lowest_odd = record { below = λ j h. absurd (omega arith); hit = bit_low n ∙ odd; gone = rw cleared_odd (twice_low (n / 2)); rest = rest }
    where
      rest : (j : ℕ) → j ≢ 0 → bit (cleared n) j ≡ bit n j
      rest zero ne = absurd (ne refl)
      rest (suc j) ne = rw cleared_odd (twice_half (n / 2) j ∙ sym (bit_half n j))

module _ (n : ℕ) (even : n % 2 ≡ 0) (some : n ≢ 0) where
  cleared_even : cleared n ≡ cleared (n / 2) * 2
  cleared_even =
      let a : (n - 1) / 2 ≡ n / 2 - 1 = omega arith in
      let b : min (n % 2) ((n - 1) % 2) ≡ 0 = omega arith in
      and_step n (n - 1) ∙ ap₂ (λ (x y : ℕ). bit_and (n / 2) x * 2 + y) a b ∙ add-zero _

  lowest_even : (z : ℕ) → Lowest (n / 2) z → Lowest n (suc z)
  lowest_even z L =
      record { below = below; hit = bit_half n z ∙ L.hit; gone = rw cleared_even (twice_half (cleared (n / 2)) z ∙ L.gone); rest = rest }
    where
      below : (j : ℕ) → j < suc z → bit n j ≡ 0
      below zero h = bit_low n ∙ even
      below (suc j) h = bit_half n j ∙ L.below j (omega arith)

      rest : (j : ℕ) → j ≢ suc z → bit (cleared n) j ≡ bit n j
      rest zero ne = rw cleared_even (twice_low (cleared (n / 2)) ∙ sym (bit_low n ∙ even))
      rest (suc j) ne = rw cleared_even (twice_half (cleared (n / 2)) j ∙ L.rest j (λ d. ne (ap suc d)) ∙ sym (bit_half n j))

-- it is the number of zeros at the end
pub lowest : (k n : ℕ) → n < 2 ^ k → n ≢ 0 → Lowest n (count_trailing_zeros k n)
unfolding count_trailing_zeros
lowest zero n h ne = absurd (ne (lt-one h))
lowest (suc k) n h ne =
    ⊎_elim
    (λ l. let e : n % 2 ≡ 0 = omega arith in rw e (lowest_even n e ne _ (lowest k (n / 2) (omega arith) (λ d. ne (omega arith)))))
    (λ l. let e : n % 2 ≡ 1 = omega arith in rw e (lowest_odd n e))
    (lt_or_ge (n % 2) 1)

module _ (k m n : ℕ) (h : n < 2 ^ k) (l : n < 2 ^ m) (ne : n ≢ 0) where
  pub lowest_low : count_trailing_zeros k n < m
  lowest_low =
      ⊎_elim (λ a. a) (λ a. absurd (ne (bits_none m n l (λ j b. (lowest k n h ne).below j (omega (arith, a, b)))))) (lt_or_ge (count_trailing_zeros k n) m)

  pub cleared-bit : Bit m n (cleared n) (count_trailing_zeros k n) 0
  cleared-bit = record { fits = lt_of_le_of_lt (and_le_l n (n - 1)) l; hit = (lowest k n h ne).gone; miss = (lowest k n h ne).rest }
