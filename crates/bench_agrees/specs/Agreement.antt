-- The lines that the groups of width p give, read off their table t alone: there is no read here.
use Rattle.std.specs.Prelude.{ℕ, suc, ◌+◌, ◌*◌, Bool, not, cond, List, [], length, eqb}
use Rattle.words.specs.Range.{first, gather}
use Rattle.words.specs.Reads.{same}
use Rattle.words.specs.Groups.{gap}
use Rattle.words.specs.Lists.{line_of}

-- position i is a start: the next position of its group is i + p
unfoldable pub starts : List ℕ → ℕ → ℕ → Bool
starts t p i = eqb (gap t i) p

-- the copies from i on: one more than the number of starts p apart
unfoldable pub copies_in : List ℕ → ℕ → ℕ → ℕ
copies_in t p i = suc (first (λ k. not (starts t p (i + p * k))) (length t) 0)

-- the line of position i, if it is a start
unfoldable pub line_in : List ℕ → ℕ → ℕ → List ℕ
line_in t p i = cond (starts t p i) (line_of i p (copies_in t p i)) []

-- the lines that the groups give, by start
unfoldable pub lines_in : List ℕ → ℕ → List ℕ
lines_in t p = gather (line_in t p) (length t) 1

-- list and groups agree: these are exactly the list's lines of the period, in order
unfoldable pub agrees_at : List ℕ → ℕ → List ℕ → Bool
agrees_at t p lines = same (lines_in t p) lines
