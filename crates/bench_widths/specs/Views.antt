-- What is printed for each width of a read x at the bench.
use Rattle.std.specs.Prelude.{ℕ, cond, List, [], ltb, eqb}
use Rattle.words.specs.Groups.{table}
use Rattle.words.specs.Lists.{lines_at, in_mode}
use Rattle.words.specs.Moves.{top_of, top, moves}
use Rattle.words_runs.specs.Runs.{runs_at}
use Rattle.text_views.specs.Views.{width_text}

-- the moves of width w that the log holds: it stops before top
unfoldable pub logged : List ℕ → ℕ → List ℕ
logged x w = cond (ltb w (top x)) (moves x w) []

-- one width: the read's own groups, moves, lines and runs
unfoldable pub width_view : List ℕ → ℕ → List ℕ
width_view x w = width_text w (table x w) (logged x w) (lines_at x (in_mode x 0) w) (runs_at x w)

-- how many widths are shown of a read of n bytes: 1 to top, none of an empty read
unfoldable pub widths_of : ℕ → ℕ
widths_of n = cond (eqb n 0) 0 (top_of n)
