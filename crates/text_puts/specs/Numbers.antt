-- Numbers as the bytes that are printed.
use Rattle.std.specs.Prelude.{ℕ, ◌+◌, ◌^◌, Bool, cond, List, [], ◌∷◌, ◌++◌, length, get_or, ltb, eqb}
use Rattle.io.specs.Digits.{last_digits}
use Rattle.words.specs.Range.{first, gather}

abbrev pub space : ℕ
space = 32

abbrev pub newline : ℕ
newline = 10

-- do k decimal digits hold n?
unfoldable pub holds : ℕ → ℕ → Bool
holds n k = ltb n (10 ^ k)

-- how many decimal digits n takes: the fewest from 1 on that hold it
unfoldable pub places : ℕ → ℕ
places n = first (holds n) n 1

-- the decimal digits of n, without leading zeros
unfoldable pub decimal : ℕ → List ℕ
decimal n = last_digits 10 (places n) n

-- a number and the byte after it
unfoldable pub number_text : ℕ → ℕ → List ℕ
number_text n after = decimal n ++ (after ∷ [])

-- the byte after number i of a row: a newline after the last number, else a space
unfoldable pub ending : List ℕ → ℕ → ℕ
ending l i = cond (eqb (i + 1) (length l)) newline space

-- number i of a row, and the byte after it
unfoldable pub cell_text : List ℕ → ℕ → List ℕ
cell_text l i = number_text (get_or l i 0) (ending l i)

-- the numbers of a row, single spaces between, a newline at the end
unfoldable pub numbers_text : List ℕ → List ℕ
numbers_text l = gather (cell_text l) (length l) 0
