-- The part of a log, of a list or of the runs that belongs to one width: the rows of c numbers whose number j is the width.
use Rattle.std.specs.Prelude.{ℕ, ◌-◌, Bool, not, List, eqb}
use Rattle.words.specs.Range.{first}
use Rattle.words.specs.Rows.{rows, cell, part}

-- number j of row k is not w
unfoldable pub differs : ℕ → List ℕ → ℕ → ℕ → ℕ → Bool
differs c l j w k = not (eqb (cell c l k j) w)

-- the first row from k on whose number j is not w; how many rows there are if there is none
unfoldable pub part_end : ℕ → List ℕ → ℕ → ℕ → ℕ → ℕ
part_end c l j w k = first (differs c l j w) (rows c l - k) k

-- the rows from row k on, up to that one
unfoldable pub part_from : ℕ → List ℕ → ℕ → ℕ → ℕ → List ℕ
part_from c l j w k = part c l k (part_end c l j w k)
