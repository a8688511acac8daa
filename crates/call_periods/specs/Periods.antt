-- The rows of one period p, read off the distances of the positions at width p: its runs, or its lines in a mode. There is no read here.
use Rattle.std.specs.Prelude.{ℕ, ◌≡◌, List, length}
use Rattle.words.specs.Range.{gather}
use Rattle.words.specs.Lists.{line_size}
use Rattle.words_runs.specs.Runs.{run_size}
use Rattle.start_lines.specs.Lines.{line_in, Counted}
use Rattle.start_runs.specs.Runs.{run_in}
use Rattle.call_periods.specs.declared.Sight.{Sight}
use Rattle.call_periods.specs.declared.Sight.TheVariants.{Lines, Runs}

-- how many numbers a row takes
unfoldable pub row_size : Sight → ℕ
row_size (Lines mode) = line_size
row_size Runs = run_size

-- the row of i, if there is one
unfoldable pub row_in : List ℕ → Sight → ℕ → ℕ → List ℕ
row_in dist (Lines mode) p i = line_in dist mode p i
row_in dist Runs p i = run_in dist p i

-- the rows of the period
unfoldable pub rows_in : List ℕ → Sight → ℕ → List ℕ
rows_in dist sight p = gather (row_in dist sight p) 1000 1

-- count holds what the lines ask of it; the runs ask for no more than its length
unfoldable pub Kept : List ℕ → Sight → ℕ → ℕ → List ℕ → Type 0
Kept dist (Lines mode) p i count = Counted dist mode p i count
Kept dist Runs p i count = length count ≡ 1000
