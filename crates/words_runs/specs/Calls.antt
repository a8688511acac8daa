-- Document 02, item 3: the answer of `runs` and what it leaves in the lent slice, for every input there is.
use Rattle.std.specs.Prelude.{ℕ, List, length, ltb}
use Rattle.words.specs.Rows.{rows}
use Rattle.words.specs.Answers.{Answer, success}
use Rattle.words.specs.Calls.{refuse, too_long, list_afterwards}
use Rattle.words_runs.specs.Runs.{run_size, runs, run_count}

-- the runs of a read x, written to a slice
unfoldable pub runs_answer : List ℕ → List ℕ → Answer
runs_answer x out =
    refuse (too_long x) 1 (length x)
    (refuse (ltb (rows run_size out) (run_count x)) 3 (run_count x)
    (success (run_count x)))

unfoldable pub runs_leaves : List ℕ → List ℕ → List ℕ
runs_leaves x out = list_afterwards (runs_answer x out) (runs x) out
