-- A byte of a read in its two forms: which one is put, the digits that are made for it, and how long it is. Assumes nothing.
use Prim.Native.Nat.{ℕ, ◌-◌, ◌*◌, ◌^◌, ◌≤◌, ◌<◌, min, max}
use mathlib.Core.Path.{◌≡◌, ap, ◌∙◌}
use mathlib.Core.Logic.{⊎_elim}
use mathlib.Core.Bool.{true, false}
use mathlib.Core.List.{List, [], ◌∷◌}
use native.Mathlib.Omega.{arith}
use native.Mathlib.Nat.{pow-le-pow_right}
use lib.ListN.{length, get_or, take}
use lib.Dec.{lit<}
use Rattle.io.specs.Digits.{last_digits, IsDigitCount}
use Rattle.words.proofs.Tests.{either, lt_or_ge}
use Rattle.text_puts.specs.Ascii.{ascii}
use Rattle.text_puts.proofs.Bounds.{gather-bound}
use Rattle.text_bytes.specs.Bytes.{plain_byte, digits_text, byte_text, bytes_text}

module _ (b : ℕ) where
  pub byte_itself : plain_byte b ≡ true → byte_text b ≡ b ∷ []
  unfolding byte_text
  byte_itself e = rw e

  pub byte_digits : plain_byte b ≡ false → byte_text b ≡ digits_text b
  unfolding byte_text
  byte_digits e = rw e

  -- what `io::hex` leaves at the front of a buffer
  pub hex_is : (k : ℕ) (out : List ℕ) → b < 2 ^ 8 → IsDigitCount 16 (min (max 2 1) 16) b k → take k out ≡ last_digits 16 k b → take k out ≡ last_digits 16 2 b
  hex_is k out s (h, l, m) e = e ∙ ap (λ (j : ℕ). last_digits 16 j b) (⊎_elim many few (lt_or_ge 2 k))
    where
      many : 2 < k → k ≡ 2
      many g = let p : 16 ^ 2 ≤ 16 ^ (k - 1) = pow-le-pow_right (lit< tt) {i = 2} (omega arith) in absurd (omega (arith, p, m g, s))

      few : k ≤ 2 → k ≡ 2
      few g = omega (arith, h)

  byte_bound : length (byte_text b) ≤ 4
  unfolding digits_text ascii
  byte_bound =
      ⊎_elim
      (λ (t : plain_byte b ≡ true). rw (byte_itself t) (omega arith))
      (λ (t : plain_byte b ≡ false). rw (byte_digits t) (omega arith))
      (either (plain_byte b))

pub bytes_bound : (x : List ℕ) → length (bytes_text x) ≤ 4 * length x
unfolding bytes_text
bytes_bound x = omega (arith, gather-bound (λ k. byte_text (get_or x k 0)) (length x) 0 4 (λ k a b. byte_bound (get_or x k 0)))
