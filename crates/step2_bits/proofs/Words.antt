-- A bit put into a word, and into the last word: one more place is in the set. The lowest bit of the lowest word that is not 0 is the least place
-- of a set; without it the set has one place less. Assumes nothing.
use Prim.Native.Nat.{ℕ, ◌+◌, ◌-◌, ◌*◌, ◌/◌, ◌%◌, ◌≤◌, ◌<◌, ◌^◌, min}
use mathlib.Core.Path.{◌≡◌, refl, sym, ap, ap₂, ◌∙◌}
use mathlib.Core.Logic.{◌≢◌, ⊎_elim}
use mathlib.Core.List.{List}
use native.Mathlib.Omega.{arith}
use lib.ListN.{get_or, set}
use lib.Bits.{bit_or}
use lib.Count.{count_trailing_zeros}
use Rattle.words.proofs.Tests.{lt_or_ge}
use Rattle.slots.specs.Slots.{put}
use Rattle.bits.specs.Bits.{bit, Bit}
use Rattle.bits.proofs.Digits.{one_zero, bit-zero, bit_full, single, or_bit, cleared, lowest, lowest_low, cleared-bit}
use Rattle.step2_bits.specs.Sets.{flag, flags, Sound, Empty, First}
use Rattle.step2_bits.proofs.Flags.{flags-at, Renewed, renewed_one, renewed_both, renewed}

-- what the code makes of a set
abbrev pub marked : List ℕ → ℕ → List ℕ
marked old s =
    let b = (s - 1) / 64 in
    let new = set old b (bit_or (get_or old b 0) (single ((s - 1) % 64))) in
    set new 16 (bit_or (get_or new 16 0) (single b))

module _ (old : List ℕ) (S : Sound old) where
  pub put_in : (s : ℕ) → 1 ≤ s → s ≤ 1000 → Sound (marked old s) × (flags (marked old s) ≡ put (flags old) s 1)
  put_in s h l =
      let b = (s - 1) / 64 in
      let j = (s - 1) % 64 in
      let word = bit_or (get_or old b 0) (single j) in
      let one = or_bit 64 (get_or old b 0) j (omega arith) (omega arith) (S.fits b (omega arith)) in
      let some : min 1 word ≡ 1 = omega (arith, bit_full word j one.hit) in
      let told : Bit 16 (get_or old 16 0) (bit_or (get_or (set old b word) 16 0) (single b)) b (min 1 word) =
      rw ((renewed_one old b word S.long (omega arith)).last, some) (or_bit 16 (get_or old 16 0) b (omega arith) (omega arith) S.top) in
      renewed old (marked old s) s 1 word _ S h l (renewed_both old b word S.long (omega arith) _) one told

  abbrev words : ℕ
  words = get_or old 16 0

  -- a word that is not told of has no place
  flag-none : (s : ℕ) → 1 ≤ s → s ≤ 1000 → bit words ((s - 1) / 64) ≡ 0 → flag old s ≡ 0
  unfolding flag
  flag-none s h l e =
      let z : get_or old ((s - 1) / 64) 0 ≡ 0 = omega (arith, S.told ((s - 1) / 64) (omega arith), e) in
      ap (λ (x : ℕ). bit x ((s - 1) % 64)) z ∙ bit-zero ((s - 1) % 64)

  pub none_empty : words ≡ 0 → Empty (flags old)
  none_empty e =
      record { none = λ s h l. flags-at old s h l ∙ flag-none s h l (ap (λ (x : ℕ). bit x ((s - 1) / 64)) e ∙ bit-zero ((s - 1) / 64)) }

  module _ (some : words ≢ 0) where
    abbrev b : ℕ
    b = count_trailing_zeros 64 words

    abbrev word : ℕ
    word = get_or old b 0

    abbrev z : ℕ
    z = count_trailing_zeros 64 word

    abbrev least : ℕ
    least = 64 * b + z + 1

    wide : words < 2 ^ 64
    wide = omega (arith, S.top)

    pub word_low : b < 16
    word_low = lowest_low 64 16 words wide S.top some

    pub word_full : word ≢ 0
    word_full e = omega (arith, S.told b word_low, (lowest 64 words wide some).hit)

    bit_low : z < 64
    bit_low = lowest_low 64 64 word (S.fits b word_low) (S.fits b word_low) word_full

    at-word : (least - 1) / 64 ≡ b
    at-word = omega (arith, bit_low)

    at-bit : (least - 1) % 64 ≡ z
    at-bit = omega (arith, bit_low)

    flag-least : flag old least ≡ 1
    unfolding flag
    flag-least = ap₂ (λ (c i : ℕ). bit (get_or old c 0) i) at-word at-bit ∙ (lowest 64 word (S.fits b word_low) word_full).hit

    pub least_high : least ≤ 1000
    least_high =
        ⊎_elim
        (λ l. absurd (one_zero (sym flag-least ∙ S.within least l (omega (arith, word_low, bit_low)))))
        (λ l. l)
        (lt_or_ge 1000 least)

    flag-below : (s : ℕ) → 1 ≤ s → s < least → flag old s ≡ 0
    unfolding flag
    flag-below s h l =
        ⊎_elim
        (λ c. flag-none s h (omega (arith, least_high)) ((lowest 64 words wide some).below ((s - 1) / 64) c))
        (λ c.
        let e : (s - 1) / 64 ≡ b = omega (arith, bit_low, c) in
        ap (λ (k : ℕ). bit (get_or old k 0) ((s - 1) % 64)) e ∙ (lowest 64 word (S.fits b word_low) word_full).below ((s - 1) % 64) (omega (arith, e)))
        (lt_or_ge ((s - 1) / 64) b)

    pub least_first : First (flags old) least
    least_first = record {
      high = least_high;
      none = λ e. absurd (omega arith);
      some = λ h. flags-at old least h least_high ∙ flag-least;
      below = λ s h l. flags-at old s h (omega (arith, least_high)) ∙ flag-below s h l;
    }

    module _ (new : List ℕ) (t : ℕ) (R : Renewed old b (cleared word) t new) (T : Bit 16 words t b (min 1 (cleared word))) where
      taken : Sound new × (flags new ≡ put (flags old) least 0)
      taken =
          let one = cleared-bit 64 64 word (S.fits b word_low) (S.fits b word_low) word_full in
          renewed old new least 0 (cleared word) t S (omega arith) least_high (rw at-word R) (rw (at-word, at-bit) one) (rw at-word T)

    -- the word has more
    pub taken_kept : cleared word ≢ 0 → (Sound (set old b (cleared word))) × (flags (set old b (cleared word)) ≡ put (flags old) least 0)
    taken_kept ne =
        taken _ words (renewed_one old b (cleared word) S.long word_low)
        (record { fits = S.top; hit = (lowest 64 words wide some).hit ∙ omega (arith, ne); miss = λ c d. refl })

    -- the word has no more
    pub taken_lost : cleared word ≡ 0
        → (Sound (set (set old b (cleared word)) 16 (cleared words))) × (flags (set (set old b (cleared word)) 16 (cleared words)) ≡ put (flags old) least 0)
    taken_lost e =
        let none : min 1 (cleared word) ≡ 0 = omega (arith, e) in
        taken _ (cleared words) (renewed_both old b (cleared word) S.long word_low (cleared words)) (rw none (cleared-bit 64 16 words wide S.top some))
