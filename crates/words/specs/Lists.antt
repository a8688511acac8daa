-- Document 01, "Order of the list": the lines, by period, then by start.
use Rattle.std.specs.Prelude.{ℕ, Bool, ◌&&◌, ◌||◌, List, [], ◌∷◌, length, leb, eqb}
use Rattle.words.specs.Rows.{rows, cell}
use Rattle.words.specs.ByPeriod.{row_if, rows_at, by_period}
use Rattle.words.specs.Repeats.{primitive, leads, copies}

-- the layout of a line: start, period, copies
unfoldable pub line_of : ℕ → ℕ → ℕ → List ℕ
line_of i p e = i ∷ p ∷ e ∷ []

-- how many numbers a line takes
unfoldable pub line_size : ℕ
line_size = 3

-- which number of a line is its period
unfoldable pub period_cell : ℕ
period_cell = 1

-- the start, the period and the copies of line k of a list, counted from 0
unfoldable pub start_of : List ℕ → ℕ → ℕ
start_of l k = cell line_size l k 0

unfoldable pub period_of : List ℕ → ℕ → ℕ
period_of l k = cell line_size l k period_cell

unfoldable pub copies_of : List ℕ → ℕ → ℕ
copies_of l k = cell line_size l k 2

-- the line of the repeat of period p that starts at i
unfoldable pub line_at : List ℕ → ℕ → ℕ → List ℕ
line_at x p i = line_of i p (copies x i p)

-- is there a repeat of this period and start, and does it belong in the list? `wanted` is any test of both
unfoldable pub listed : List ℕ → (ℕ → ℕ → Bool) → ℕ → ℕ → Bool
listed x wanted p i = leb 2 (copies x i p) && primitive x i p && wanted p i

-- the line of period p and start i, if it belongs in the list
unfoldable pub line : List ℕ → (ℕ → ℕ → Bool) → ℕ → ℕ → List ℕ
line x wanted = row_if (listed x wanted) (line_at x)

-- the lines of period p, by start
unfoldable pub lines_at : List ℕ → (ℕ → ℕ → Bool) → ℕ → List ℕ
lines_at x wanted = rows_at (listed x wanted) (line_at x) (length x)

-- the list, by period
unfoldable pub lines : List ℕ → (ℕ → ℕ → Bool) → List ℕ
lines x wanted = by_period (listed x wanted) (line_at x) (length x)

-- how many lines there are
unfoldable pub line_count : List ℕ → (ℕ → ℕ → Bool) → ℕ
line_count x wanted = rows line_size (lines x wanted)

-- what a mode wants: any repeat in mode 0, only a leading one in mode 1
unfoldable pub in_mode : List ℕ → ℕ → ℕ → ℕ → Bool
in_mode x mode p i = eqb mode 0 || leads x i p
