-- The run that begins at a start of period p, read off the distances of the positions at width p. There is no read here.
use Rattle.std.specs.Prelude.{ℕ, suc, ◌+◌, ◌-◌, ◌*◌, Bool, ◌&&◌, ◌||◌, not, cond, List, [], leb, eqb}
use Rattle.words.specs.Range.{first, gather}
use Rattle.words.specs.Reads.{at}
use Rattle.words_runs.specs.Runs.{run_of}

-- i has no start just before it
unfoldable pub first_in : List ℕ → ℕ → ℕ → Bool
first_in dist p i = leb i 1 || not (eqb (at dist (i - 1)) p)

-- i has no start just after it
unfoldable pub ends_in : List ℕ → ℕ → ℕ → Bool
ends_in dist p i = not (eqb (at dist (suc i)) p)

-- the last of the starts that stand side by side from i on
unfoldable pub last_in : List ℕ → ℕ → ℕ → ℕ
last_in dist p i = first (ends_in dist p) 1000 i

-- the run that begins at i, if one does
unfoldable pub run_in : List ℕ → ℕ → ℕ → List ℕ
run_in dist p i = cond (eqb (at dist i) p && first_in dist p i) (run_of i (last_in dist p i + 2 * p - 1) p) []

-- the runs of the period
unfoldable pub runs_in : List ℕ → ℕ → List ℕ
runs_in dist p = gather (run_in dist p) 1000 1
