-- A text put into a buffer, and when there is room for it.
use Rattle.std.specs.Prelude.{ℕ, ◌+◌, ◌≤◌, ◌≡◌, List, ◌++◌, length, take, drop}

-- a buffer with a text put at a place
unfoldable pub placed : List ℕ → ℕ → List ℕ → List ℕ
placed buf at text = take at buf ++ text ++ drop (at + length text) buf

-- a buffer has room for a text at a place
pub record Room (buf : List ℕ) (at : ℕ) (text : List ℕ) : Type 0 where
  pub fits : at + length text ≤ length buf

-- a text was put at a place of a buffer, and `end` is the place after it
pub record Puts (buf : List ℕ) (at : ℕ) (text after : List ℕ) (end : ℕ) : Type 0 where
  pub bytes : after ≡ placed buf at text
  pub stop : end ≡ at + length text
