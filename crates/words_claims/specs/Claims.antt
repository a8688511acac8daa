-- Document 02, item 4: the words by which a claim of a start i, a period p and copies e is judged.
use Rattle.std.specs.Prelude.{ℕ, ◌+◌, ◌-◌, ◌*◌, Bool, ◌&&◌, ◌||◌, List, length, leb, ltb, eqb}
use Rattle.words.specs.Range.{first}
use Rattle.words.specs.Repeats.{writes, copies}

-- the start, period or copies lie outside the read: a 0 among the three, or a last byte beyond the read
unfoldable pub outside : List ℕ → ℕ → ℕ → ℕ → Bool
outside x i p e = eqb i 0 || eqb p 0 || eqb e 0 || ltb (length x) (i + p * e - 1)

-- the length of the primitive root of the p bytes from i: the first that writes them, and p where no shorter one does
unfoldable pub root : List ℕ → ℕ → ℕ → ℕ
root x i p = first (writes x i p) (p - 1) 1

-- the motif is a shorter one repeated
unfoldable pub shorter : List ℕ → ℕ → ℕ → Bool
shorter x i p = ltb (root x i p) p

-- the copies are the true copy count at that start and period; a claim of one copy is never yes
unfoldable pub counted : List ℕ → ℕ → ℕ → ℕ → Bool
counted x i p e = leb 2 e && eqb (copies x i p) e
