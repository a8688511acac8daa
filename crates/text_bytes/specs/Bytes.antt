-- The bytes of a read as the bench sees them.
use Rattle.std.specs.Prelude.{ℕ, ◌≤◌, Bool, ◌&&◌, not, cond, List, [], ◌∷◌, ◌++◌, length, get_or, eqb}
use Rattle.words.specs.Range.{gather}
use Rattle.words.specs.Logs.{within}
use Rattle.io.specs.Digits.{last_digits}
use Rattle.text_puts.specs.Ascii.{ascii}

-- the byte that begins the other form
abbrev pub backslash : ℕ
backslash = 92

-- a byte can stand for itself: it has a sign of its own, and is not the backslash
unfoldable pub plain_byte : ℕ → Bool
plain_byte b = within 33 126 b && not (eqb b backslash)

-- the other form: a backslash, x and two hexadecimal digits
unfoldable pub digits_text : ℕ → List ℕ
digits_text b = ascii "\\x" ++ last_digits 16 2 b

-- a byte as the bench sees it, in the one form or the other
unfoldable pub byte_text : ℕ → List ℕ
byte_text b = cond (plain_byte b) (b ∷ []) (digits_text b)

-- the bytes of a read, so that no terminal obeys one
unfoldable pub bytes_text : List ℕ → List ℕ
bytes_text x = gather (λ k. byte_text (get_or x k 0)) (length x) 0

-- no byte of a text is one that a terminal obeys, and none is blank
unfoldable pub Visible : List ℕ → Type 0
Visible [] = Unit
Visible (b ∷ l) = (33 ≤ b) × (b ≤ 126) × Visible l
