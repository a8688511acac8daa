-- `bench_shows::show_table` meets its contract: the parts cut out are those of the width, and what is shown is compared.
use Rattle.std.proofs.Common.{ℕ, ◌+◌, ◌≤◌, ◌≡◌, List, length, refl, ap, ◌∙◌, arith}
use Rattle.words.specs.Rows.{rows}
use Rattle.words.specs.Lists.{line_size, period_cell}
use Rattle.words.specs.Moves.{move_size, width_cell}
use Rattle.words.proofs.MoveLayout.{move_some, width_inside}
use Rattle.words.proofs.LineLayout.{line-some, period_inside}
use Rattle.words_runs.specs.Runs.{run_size, run_period_cell}
use Rattle.words_runs.proofs.RunLayout.{run-some, run_period_inside}
use Rattle.bench_agrees.specs.Parts.{part_from}
use Rattle.bench_agrees.proofs.Cuts.{part-inside}
use Rattle.text_views.proofs.Cells.{rows_few}
use Rattle.bench_shows.specs.Places.{moves_from, lines_from, runs_from}
use Rattle.bench_shows.proofs.show_table.Goals.{After-entries, After-room, After-room-2}
use Rattle.bench_shows.proofs.show_table.Goals as goal

-- the place after the rows that are cut out can be counted
passed : (c j : ℕ) (l : List ℕ) (w k : ℕ) → 1 ≤ c → k ≤ rows c l → k + rows c (part_from c l j w k) ≤ length l
passed c j l w k some h = omega (arith, part-inside c l j w k some h, rows_few c l)

-- ---- the moves of the width

pub part_from-moves-requires : goal.part_from-moves-requires
part_from-moves-requires c = rw (c.width_cell.ensures, c.move_size.ensures) (width_inside, c.requires.2)

moves-are : (c : After-entries) → c.part_from-moves.result.now ≡ moves_from c.args.log.now c.args.w c.args.p
unfolding moves_from
moves-are c = c.part_from-moves.ensures ∙ rw (c.width_cell.ensures, c.move_size.ensures) refl

moved_is : (c : After-entries) → c.entries.result ≡ rows move_size (moves_from c.args.log.now c.args.w c.args.p)
moved_is c = c.entries.ensures ∙ ap (rows move_size) (moves-are c)

pub overflow_add-moved : goal.overflow_add-moved
unfolding moves_from
overflow_add-moved c =
    omega (
      arith,
      moved_is (goal.at.overflow_add-moved c).After-entries,
      passed move_size width_cell c.args.log.now c.args.w c.args.p.moved move_some c.requires.2,
    )

-- ---- its lines

pub part_from-lines-requires : goal.part_from-lines-requires
part_from-lines-requires c = rw (c.period_cell.ensures, c.line_size.ensures) (period_inside, c.requires.3)

lines_are : (c : After-room) → c.part_from-lines.result.now ≡ lines_from c.args.list.now c.args.w c.args.p
unfolding lines_from
lines_are c = c.part_from-lines.ensures ∙ rw (c.period_cell.ensures, c.line_size.ensures) refl

listed-is : (c : After-room) → c.room.result ≡ rows line_size (lines_from c.args.list.now c.args.w c.args.p)
listed-is c = c.room.ensures ∙ ap (rows line_size) (lines_are c)

pub overflow_add-listed : goal.overflow_add-listed
unfolding lines_from
overflow_add-listed c =
    omega (
      arith,
      listed-is (goal.at.overflow_add-listed c).After-room,
      passed line_size period_cell c.args.list.now c.args.w c.args.p.listed line-some c.requires.3,
    )

-- ---- and its runs

pub part_from-maximal-requires : goal.part_from-maximal-requires
part_from-maximal-requires c = rw (c.run_period_cell.ensures, c.run_size.ensures) (run_period_inside, c.requires.4)

runs_are : (c : After-room-2) → c.part_from-maximal.result.now ≡ runs_from c.args.runs.now c.args.w c.args.p
unfolding runs_from
runs_are c = c.part_from-maximal.ensures ∙ rw (c.run_period_cell.ensures, c.run_size.ensures) refl

ran-is : (c : After-room-2) → c.room-2.result ≡ rows run_size (runs_from c.args.runs.now c.args.w c.args.p)
ran-is c = c.room-2.ensures ∙ ap (rows run_size) (runs_are c)

pub overflow_add-ran : goal.overflow_add-ran
unfolding runs_from
overflow_add-ran c =
    omega (
      arith,
      ran-is (goal.at.overflow_add-ran c).After-room-2,
      passed run_size run_period_cell c.args.runs.now c.args.w c.args.p.ran run-some c.requires.4,
    )

-- ---- shown and compared

pub collect_width-after-requires : goal.collect_width-after-requires
collect_width-after-requires c =
    let at = goal.at.collect_width-after-requires c in
    (rw (runs_are at.After-room-2, lines_are at.After-room, moves-are at.After-entries) c.requires.0, c.requires.1)

pub returns : goal.returns
returns c =
    let at = goal.at.returns c in
    let p = c.args.p in
    record {
      moved = ap (λ (k : ℕ). p.moved + k) (moved_is at.After-entries);
      listed = ap (λ (k : ℕ). p.listed + k) (listed-is at.After-room);
      ran = ap (λ (k : ℕ). p.ran + k) (ran-is at.After-room-2);
      differ = c.first_differ.ensures ∙ rw (c.agree_at-agree.ensures, lines_are at.After-room) refl;
      collects = rw (runs_are at.After-room-2, lines_are at.After-room, moves-are at.After-entries) at c.collect_width-after.ensures;
    }
