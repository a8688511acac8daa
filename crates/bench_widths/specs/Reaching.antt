-- Width by width: the place reached in the log, in the list and in the runs, and the table by the replay.
use Rattle.std.specs.Prelude.{ℕ, suc, ◌-◌, ◌*◌, ◌≤◌, ◌≡◌, List, length}
use Rattle.words.specs.Range.{gather}
use Rattle.words.specs.Reads.{most}
use Rattle.words.specs.Replay.{replay}
use Rattle.words.specs.Lists.{line_size, lines_at, lines, in_mode}
use Rattle.words.specs.Moves.{move_size, log}
use Rattle.words_runs.specs.Runs.{run_size, runs_at, runs}
use Rattle.slots.specs.Slots.{view}
use Rattle.call_renames.specs.Blocks.{Splits}
use Rattle.call_renames.specs.Split.{Groups, Rooms}
use Rattle.bench_shows.specs.declared.Place.{Place}
use Rattle.bench_widths.specs.Views.{logged, widths_of}

-- a log, a list and runs are those of the read x, which is not too long
pub record Own (x l m s : List ℕ) : Type 0 where
  pub few : length x ≤ most
  pub log : l ≡ log x
  pub list : m ≡ lines x (in_mode x 0)
  pub runs : s ≡ runs x

-- the widths below w are shown, and list and groups agree so far
pub record Reached (x : List ℕ) (w : ℕ) (p : Place) : Type 0 where
  pub low : 1 ≤ w
  pub high : w ≤ suc (widths_of (length x))
  pub moved : move_size * p.moved ≡ length (gather (logged x) (w - 1) 1)
  pub listed : line_size * p.listed ≡ length (gather (lines_at x (in_mode x 0)) (w - 1) 1)
  pub ran : run_size * p.ran ≡ length (gather (runs_at x) (w - 1) 1)
  pub agree : p.differ ≡ 0

-- the names are the table of width w by the replay of the log l of the read x, and the entries of the widths below w are those before k
pub record Replays (x l : List ℕ) (w : ℕ) (name mark lead part : List ℕ) (k : ℕ) : Type 0 where
  pub groups : Groups (length x) name
  pub rooms : Rooms mark lead part
  pub splits : Splits l w k
  pub names : view (length x) name ≡ replay x l w
