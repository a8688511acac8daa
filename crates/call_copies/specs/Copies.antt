-- How far the code counts, and what it looks for that is no word of the document.
use Rattle.std.specs.Prelude.{ℕ, ◌+◌, ◌-◌, ◌%◌, not, cond, List, eqb}
use Rattle.words.specs.Range.{first}
use Rattle.words.specs.Reads.{letter}

-- no read has so many bytes: two places up to here have a sum that fits a usize, if one of them lies in the read
abbrev pub farthest : ℕ
farthest = 9223372036854775808

-- how many of the w bytes from i on are those from j on, up to the first that is not
unfoldable pub agreed : List ℕ → ℕ → ℕ → ℕ → ℕ
agreed x w i j = first (λ k. not (eqb (letter x (i + k)) (letter x (j + k)))) w 0

-- how many bases of the motif of p bytes from i are those d further in it, up to the first that is not; none where p is no multiple of d
unfoldable pub agreed_inside : List ℕ → ℕ → ℕ → ℕ → ℕ
agreed_inside x i p d = cond (eqb (p % d) 0) (agreed x (p - d) i (i + d)) 0
