-- Lines and runs are two ways to look at a width of a read x.
use Rattle.std.specs.Prelude.{ℕ, List, length, ltb}
use Rattle.words.specs.Range.{count, gather}
use Rattle.words.specs.Lists.{lines_at, in_mode}
use Rattle.words.specs.Moves.{top}
use Rattle.words_runs.specs.Runs.{runs_at}
use Rattle.call_periods.specs.declared.Sight.{Sight}
use Rattle.call_periods.specs.declared.Sight.TheVariants.{Lines, Runs}

-- what is seen at the width p: its lines in a mode, or its runs
unfoldable pub look_at : List ℕ → Sight → ℕ → List ℕ
look_at x (Lines mode) p = lines_at x (in_mode x mode) p
look_at x Runs p = runs_at x p

-- what is seen at the widths 1 to top, one after another
unfoldable pub looked : List ℕ → Sight → List ℕ
looked x sight = gather (look_at x sight) (top x) 1

-- at how many of them something is seen
unfoldable pub seen_at : List ℕ → Sight → ℕ
seen_at x sight = count (λ p. ltb 0 (length (look_at x sight p))) (top x) 1
