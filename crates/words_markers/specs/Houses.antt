-- Document 02, item 7, "The house list is text with one motif a line, split at newlines, lines counted from 0": a text h, its bytes counted from 0 too.
use Rattle.std.specs.Prelude.{ℕ, zero, suc, ◌-◌, Bool, ◌&&◌, List, length, get_or, take, drop, leb, eqb}
use Rattle.words.specs.Range.{first}
use Rattle.words.specs.Reads.{same}

-- the byte that ends a line; no other does
abbrev pub newline : ℕ
newline = 10

-- byte j is a newline
unfoldable pub breaks : List ℕ → ℕ → Bool
breaks h j = eqb (get_or h j 0) newline

-- where the line that starts at byte a ends: at the first newline from there on, or at the end of the text
unfoldable pub line_end : List ℕ → ℕ → ℕ
line_end h a = first (breaks h) (length h - a) a

-- where line k starts: the first at the front, each other one behind the newline that ends the line before. A line that is not there starts past the end of the text
unfoldable pub line_start : List ℕ → ℕ → ℕ
line_start h zero = 0
line_start h (suc k) = suc (line_end h (line_start h k))

-- there is a line k
unfoldable pub has_line : List ℕ → ℕ → Bool
has_line h k = leb (line_start h k) (length h)

-- the bytes of line k
unfoldable pub house_line : List ℕ → ℕ → List ℕ
house_line h k = take (line_end h (line_start h k) - line_start h k) (drop (line_start h k) h)

-- the house list has the marker of number k and motif m: the line of that number is the motif
unfoldable pub house_has : List ℕ → ℕ → List ℕ → Bool
house_has h k m = has_line h k && same (house_line h k) m
