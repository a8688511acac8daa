-- Document 02, item 3, "Runs with the partial copy": the maximal repetitions of a read x as source document 004 defines them. A stretch goes from position a to
-- position b, both included.
use Rattle.std.specs.Prelude.{ℕ, suc, ◌+◌, ◌-◌, ◌*◌, Bool, ◌&&◌, ◌||◌, not, List, [], ◌∷◌, length, leb, ltb, eqb}
use Rattle.words.specs.Range.{first, every}
use Rattle.words.specs.Rows.{rows, cell}
use Rattle.words.specs.ByPeriod.{rows_at, by_period}
use Rattle.words.specs.Reads.{letter}

-- position k compares as the one p after it
unfoldable pub again : List ℕ → ℕ → ℕ → Bool
again x p k = eqb (letter x k) (letter x (k + p))

-- p is a period of the stretch: each of its positions compares as the one p after it, where that lies in the stretch too
unfoldable pub periodic : List ℕ → ℕ → ℕ → ℕ → Bool
periodic x a b p = every (again x p) (suc b - (a + p)) a

-- the least period of the stretch; its own length is a period too
unfoldable pub least_period : List ℕ → ℕ → ℕ → ℕ
least_period x a b = first (periodic x a b) (b - a) 1

-- the stretch is a repetition: it is at least two of its periods long
unfoldable pub repetition : List ℕ → ℕ → ℕ → Bool
repetition x a b = leb (2 * least_period x a b) (suc b - a)

-- with one base more on its left, if there is one, it has a larger period
unfoldable pub left_ends : List ℕ → ℕ → ℕ → Bool
left_ends x a b = leb a 1 || ltb (least_period x a b) (least_period x (a - 1) b)

-- .. and on its right
unfoldable pub right_ends : List ℕ → ℕ → ℕ → Bool
right_ends x a b = leb (length x) b || ltb (least_period x a b) (least_period x a (suc b))

-- the stretch from a to b, inside the read, is a run of period p: a maximal repetition whose least period is p
unfoldable pub run : List ℕ → ℕ → ℕ → ℕ → Bool
run x a b p =
    leb 1 a && leb a b && leb b (length x)
    && eqb (least_period x a b) p
    && repetition x a b
    && left_ends x a b
    && right_ends x a b

-- where the period p stops, if it starts at a: the last position up to which each compares as the one p before it
unfoldable pub reach : List ℕ → ℕ → ℕ → ℕ
reach x p a = first (λ k. not (again x p k)) (suc (length x) - (a + p)) a + p - 1

-- the layout of a run: start, end, period
unfoldable pub run_of : ℕ → ℕ → ℕ → List ℕ
run_of a b p = a ∷ b ∷ p ∷ []

-- how many numbers a run takes
unfoldable pub run_size : ℕ
run_size = 3

-- which number of a run is its period
unfoldable pub run_period_cell : ℕ
run_period_cell = 2

-- the start, the end and the period of run k of a list, counted from 0
unfoldable pub run_start : List ℕ → ℕ → ℕ
run_start l k = cell run_size l k 0

unfoldable pub run_end : List ℕ → ℕ → ℕ
run_end l k = cell run_size l k 1

unfoldable pub run_period : List ℕ → ℕ → ℕ
run_period l k = cell run_size l k run_period_cell

-- is there a run of this period and start? It can end nowhere but where the period stops
unfoldable pub run_begins : List ℕ → ℕ → ℕ → Bool
run_begins x p a = run x a (reach x p a) p

-- the run of period p that starts at a
unfoldable pub run_at : List ℕ → ℕ → ℕ → List ℕ
run_at x p a = run_of a (reach x p a) p

-- the runs of period p, by start
unfoldable pub runs_at : List ℕ → ℕ → List ℕ
runs_at x = rows_at (run_begins x) (run_at x) (length x)

-- the runs, by period
unfoldable pub runs : List ℕ → List ℕ
runs x = by_period (run_begins x) (run_at x) (length x)

-- how many runs there are
unfoldable pub run_count : List ℕ → ℕ
run_count x = rows run_size (runs x)
