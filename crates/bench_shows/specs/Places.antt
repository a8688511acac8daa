-- The place reached in the log, in the list and in the runs, and one width shown from its table.
use Rattle.std.specs.Prelude.{ℕ, ◌+◌, ◌≤◌, ◌≡◌, Bool, ◌&&◌, not, cond, List, length, eqb}
use Rattle.words.specs.Reads.{most}
use Rattle.words.specs.Rows.{rows}
use Rattle.words.specs.Lists.{line_size, period_cell}
use Rattle.words.specs.Moves.{move_size, width_cell}
use Rattle.words_runs.specs.Runs.{run_size, run_period_cell}
use Rattle.bench_agrees.specs.Parts.{part_from}
use Rattle.bench_agrees.specs.Agreement.{agrees_at}
use Rattle.text_views.specs.Views.{width_text}
use Rattle.bench_shows.specs.Collecting.{Collects}
use Rattle.bench_shows.specs.declared.Place.{Place}

-- a table, moves, lines and runs of one width: a name, a move, a line and a run for each of 1,000 positions at most
pub record Brief (table moves lines runs : List ℕ) : Type 0 where
  pub names : length table ≤ most
  pub movers : rows move_size moves ≤ most
  pub starts : rows line_size lines ≤ most
  pub firsts : rows run_size runs ≤ most

-- the part of a log that belongs to width w, from the place reached on
unfoldable pub moves_from : List ℕ → ℕ → Place → List ℕ
moves_from l w p = part_from move_size l width_cell w p.moved

-- .. the part of a list
unfoldable pub lines_from : List ℕ → ℕ → Place → List ℕ
lines_from m w p = part_from line_size m period_cell w p.listed

-- .. and the part of the runs
unfoldable pub runs_from : List ℕ → ℕ → Place → List ℕ
runs_from s w p = part_from run_size s run_period_cell w p.ran

-- the first width at which list and groups differ, after one width more; 0 while they agree
unfoldable pub first_differ : ℕ → Bool → ℕ → ℕ
first_differ d agree w = cond (eqb d 0 && not agree) w d

-- one width was shown from a table: its parts of the log, of the list and of the runs are passed, and whether list and groups agree is known
pub record Shown (table log list runs : List ℕ) (w : ℕ) (buf : List ℕ) (p : Place) (after : List ℕ) (r : Place) : Type 0 where
  pub moved : r.moved ≡ p.moved + rows move_size (moves_from log w p)
  pub listed : r.listed ≡ p.listed + rows line_size (lines_from list w p)
  pub ran : r.ran ≡ p.ran + rows run_size (runs_from runs w p)
  pub differ : r.differ ≡ first_differ p.differ (agrees_at table w (lines_from list w p)) w
  pub collects : Collects buf p.out (width_text w table (moves_from log w p) (lines_from list w p) (runs_from runs w p)) after r.out
