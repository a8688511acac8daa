-- Two sets with the same places are the same words, bit by bit, and so the same value. Assumes nothing.
use Prim.Native.Nat.{ℕ, ◌+◌, ◌-◌, ◌*◌, ◌/◌, ◌%◌, ◌<◌, min}
use mathlib.Core.Path.{◌≡◌, sym, ap, ap₂, ◌∙◌}
use mathlib.Core.Logic.{⊎_elim}
use mathlib.Core.HLevel.{is_prop→PathP}
use mathlib.Core.List.{List}
use native.Mathlib.Omega.{arith}
use lib.ListN.{get_or}
use lib.Seq.{ext_get_or}
use Rattle.words.specs.Reads.{at}
use Rattle.words.proofs.Tests.{lt_or_ge}
use Rattle.bits.specs.Bits.{bit}
use Rattle.bits.proofs.Digits.{bits_same}
use Rattle.step2_bits.specs.Sets.{flag, flags, Sound, Sound-prop}
use Rattle.step2_bits.specs.declared.Places.{Places}
use Rattle.step2_bits.proofs.Flags.{flags-at}

module _ (a : List ℕ) (c j : ℕ) (h : j < 64) where
  -- the place of bit j of word c
  flag_place : flag a (64 * c + j + 1) ≡ bit (get_or a c 0) j
  unfolding flag
  flag_place =
      let d : (64 * c + j + 1 - 1) / 64 ≡ c = omega arith in
      let e : (64 * c + j + 1 - 1) % 64 ≡ j = omega arith in
      ap₂ (λ (k i : ℕ). bit (get_or a k 0) i) d e

module _ (a b : List ℕ) (A : Sound a) (B : Sound b) (same : flags a ≡ flags b) where
  bit-same : (c j : ℕ) → c < 16 → j < 64 → bit (get_or a c 0) j ≡ bit (get_or b c 0) j
  bit-same c j h l =
      sym (flag_place a c j l)
      ∙ ⊎_elim
      (λ m. A.within (64 * c + j + 1) m (omega arith) ∙ sym (B.within (64 * c + j + 1) m (omega arith)))
      (λ m.
      sym (flags-at a (64 * c + j + 1) (omega arith) m) ∙ ap (λ (f : List ℕ). at f (64 * c + j + 1)) same ∙ flags-at b (64 * c + j + 1) (omega arith) m)
      (lt_or_ge 1000 (64 * c + j + 1))
      ∙ flag_place b c j l

  word_same : (c : ℕ) → c < 16 → get_or a c 0 ≡ get_or b c 0
  word_same c h = bits_same 64 (get_or a c 0) (get_or b c 0) (A.fits c h) (B.fits c h) (λ j l. bit-same c j h l)

  last_same : get_or a 16 0 ≡ get_or b 16 0
  last_same =
      bits_same 16 (get_or a 16 0) (get_or b 16 0) A.top B.top (λ c h. A.told c h ∙ ap (min 1) (word_same c h) ∙ sym (B.told c h))

  pub sound_once : a ≡ b
  sound_once =
      ext_get_or 0 a b (A.long ∙ sym B.long)
      (λ c l.
      let m : c < 17 = rw A.long at l in
      ⊎_elim (λ h. word_same c h) (λ h. let e : c ≡ 16 = omega arith in rw e last_same) (lt_or_ge c 16))

pub places_once : (p q : Places) → flags p.words ≡ flags q.words → p ≡ q
places_once p q e =
    let same : p.words ≡ q.words = sound_once p.words q.words p.sound q.sound e in
    λ i. record { words = same i; sound = is_prop→PathP (λ j. Sound (same j)) (λ j. Sound-prop (same j)) p.sound q.sound i }
