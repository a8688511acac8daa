-- The byte of a position, as the code reads it, and the letter past the read, where all bytes are 0. Assumes nothing.
use Prim.Native.Nat.{ℕ, ◌-◌, ◌≤◌}
use mathlib.Core.Path.{◌≡◌, refl, ap, ◌∙◌}
use mathlib.Core.List.{List}
use native.Mathlib.Omega.{arith}
use lib.ListN.{length, get_or, get_or-eq_default}
use Rattle.words.specs.Reads.{at, letter_of, letter}
use Rattle.words.proofs.Letters.{letter_is, letter_read}

pub byte_at : (x : List ℕ) (i : ℕ) → at x i ≡ get_or x (i - 1) 0
unfolding at
byte_at x i = refl

pub byte_past : (x : List ℕ) (i : ℕ) → length x ≤ i - 1 → at x i ≡ 0
byte_past x i l = byte_at x i ∙ get_or-eq_default x 0 l

pub letter_past : (x : List ℕ) (i : ℕ) → length x ≤ i - 1 → letter x i ≡ 1
letter_past x i l = letter_is x i ∙ ap (λ (b : ℕ). letter_of b i) (byte_past x i l) ∙ letter_read 0 i (λ e. omega (arith, e))
