-- What is shown of a read has no byte that a terminal obeys, whatever bytes the read has. Assumes nothing.
use Prim.Native.Nat.{ℕ, zero, suc, ◌/◌, ◌%◌, ◌≤◌, ◌<◌}
use mathlib.Core.Path.{◌≡◌}
use mathlib.Core.Logic.{⊎_elim}
use mathlib.Core.Bool.{true, false, ◌&&◌, not}
use mathlib.Core.List.{List, [], ◌∷◌, ◌++◌}
use native.Mathlib.Omega.{arith}
use native.Mathlib.Nat.{mod-lt}
use lib.ListN.{length, get_or}
use lib.Dec.{leb, eqb, lit<}
use borrow.Author.Tests.{leb-true, lt-ltb, le-ltb}
use Rattle.io.specs.Digits.{hex_digit_ascii}
use Rattle.words.specs.Range.{gather}
use Rattle.words.specs.Logs.{within}
use Rattle.words.proofs.Tests.{either, lt_or_ge, and_left, and_right}
use Rattle.text_puts.specs.Ascii.{ascii}
use Rattle.text_bytes.specs.Bytes.{backslash, plain_byte, digits_text, byte_text, bytes_text, Visible}
use Rattle.text_bytes.proofs.Bytes.{byte_itself, byte_digits}

both_visible : (a b : List ℕ) → Visible a → Visible b → Visible (a ++ b)
unfolding Visible
both_visible [] b p q = q
both_visible (c ∷ a) b (h, k, p) q = (h, k, both_visible a b p q)

gather_visible : (f : ℕ → List ℕ) → ((k : ℕ) → Visible (f k)) → (d j : ℕ) → Visible (gather f d j)
unfolding gather Visible
gather_visible f h zero j = tt
gather_visible f h (suc d) j = both_visible (f j) (gather f d (suc j)) (h j) (gather_visible f h d (suc j))

-- a digit is one of 0 to 9 or a to f
glyph_visible : (d : ℕ) → d < 16 → (33 ≤ hex_digit_ascii d) × (hex_digit_ascii d ≤ 126)
glyph_visible d h =
    ⊎_elim
    (λ (l : d < 10). rw (lt-ltb d 10 l) (omega arith, omega arith))
    (λ (l : 10 ≤ d). rw (le-ltb d 10 l) (omega arith, omega arith))
    (lt_or_ge d 10)

module _ (b : ℕ) where
  itself_visible : plain_byte b ≡ true → Visible (b ∷ [])
  unfolding plain_byte within Visible
  itself_visible t =
      let w = and_left (leb 33 b && leb b 126) (not (eqb b backslash)) t in
      (leb-true 33 b (and_left (leb 33 b) (leb b 126) w), leb-true b 126 (and_right (leb 33 b) (leb b 126) w), tt)

  digits_visible : Visible (digits_text b)
  unfolding digits_text ascii Visible
  digits_visible =
      let high = glyph_visible (b / 16 % 16) (mod-lt (b / 16) (lit< tt)) in
      let low = glyph_visible (b % 16) (mod-lt b (lit< tt)) in
      (omega arith, omega arith, (omega arith, omega arith, (high.0, high.1, (low.0, low.1, tt))))

  byte_visible : Visible (byte_text b)
  byte_visible =
      ⊎_elim
      (λ (t : plain_byte b ≡ true). rw (byte_itself b t) (itself_visible t))
      (λ (t : plain_byte b ≡ false). rw (byte_digits b t) digits_visible)
      (either (plain_byte b))

pub bytes_visible : (x : List ℕ) → Visible (bytes_text x)
unfolding bytes_text
bytes_visible x = gather_visible (λ k. byte_text (get_or x k 0)) (λ k. byte_visible (get_or x k 0)) (length x) 0
