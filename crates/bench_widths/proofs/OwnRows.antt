-- The moves of a width hold it as their width, the lines and the runs of a period as their period. Assumes nothing.
use Prim.Native.Nat.{ℕ, zero, suc, ◌-◌, ◌<◌}
use mathlib.Core.Path.{◌≡◌, ◌∙◌}
use mathlib.Core.Bool.{Bool}
use mathlib.Core.List.{List}
use native.Mathlib.Omega.{arith}
use lib.ListN.{length}
use lib.Dec.{eqb}
use Rattle.words.specs.Rows.{rows, cell}
use Rattle.words.specs.Reads.{at}
use Rattle.words.specs.Repeats.{copies}
use Rattle.words.specs.Groups.{table, smalls}
use Rattle.words.specs.ByPeriod.{row_if, rows_at}
use Rattle.words.specs.Lists.{line_of, line_size, period_cell, line_at, listed, lines_at, in_mode}
use Rattle.words.specs.Moves.{move_of, move_size, width_cell, move_at, moves_of, moves_in, moves}
use Rattle.words.proofs.Rows.{rows_times, row-alone}
use Rattle.words.proofs.MoveLayout.{move_length, width_inside, width_cell_lem, entry_width}
use Rattle.words.proofs.LineLayout.{line-length, period_inside, line_period}
use Rattle.words_runs.specs.Runs.{run_of, run_size, run_period_cell, reach, run_begins, run_at, runs_at}
use Rattle.words_runs.proofs.RunLayout.{run_length, run_period_inside, run_period_lem}
use Rattle.bench_agrees.proofs.Parts.{Keyed, keyed_gather, keyed_cond}

-- one row, whose number j is w
row_keyed : (c j : ℕ) (inside : j < c) (w : ℕ) (r : List ℕ) → length r ≡ c → cell c r 0 j ≡ w → Keyed c j inside w r
row_keyed c j inside w r e q = record { full = rw one (omega (arith, e)); key = λ k h. only k (omega (arith, h, one)) }
  where
    one : rows c r ≡ 1
    one = rows_times c r 1 (omega (arith, inside)) (omega (arith, e))

    only : (k : ℕ) → k < 1 → cell c r k j ≡ w
    only zero h = q
    only (suc k) h = absurd (omega arith)

move_keyed : (w s i : ℕ) → Keyed move_size width_cell width_inside w (move_of w s i)
move_keyed w s i =
    row_keyed move_size width_cell width_inside w (move_of w s i) (move_length w s i)
    (width_cell_lem (move_of w s i) 0 ∙ entry_width (move_of w s i) 0 w s i (row-alone move_size (move_of w s i) (move_length w s i)))

line_keyed : (i p e : ℕ) → Keyed line_size period_cell period_inside p (line_of i p e)
line_keyed i p e =
    row_keyed line_size period_cell period_inside p (line_of i p e) (line-length i p e)
    (line_period (line_of i p e) 0 i p e (row-alone line_size (line_of i p e) (line-length i p e)))

run_keyed : (a b p : ℕ) → Keyed run_size run_period_cell run_period_inside p (run_of a b p)
run_keyed a b p =
    row_keyed run_size run_period_cell run_period_inside p (run_of a b p) (run_length a b p)
    (run_period_lem (run_of a b p) 0 a b p (row-alone run_size (run_of a b p) (run_length a b p)))

pub moves_keyed : (x : List ℕ) (w : ℕ) → Keyed move_size width_cell width_inside w (moves x w)
unfolding moves moves_in moves_of move_at
moves_keyed x w =
    let t = table x w in
    let f = smalls x w in
    keyed_gather move_size width_cell width_inside w (moves_of w t f) (length t) 1
    (λ s.
    keyed_cond move_size width_cell width_inside w (eqb (at f s) 1) _
    (keyed_gather move_size width_cell width_inside w (move_at w t s) (length t - 1) 2
    (λ i. keyed_cond move_size width_cell width_inside w (eqb (at t i) s) _ (move_keyed w s (i - 1)))))

-- the rows of a period, where each holds it
rows_keyed : (c j : ℕ) (inside : j < c) (n p : ℕ) (test : ℕ → ℕ → Bool) (make : ℕ → ℕ → List ℕ) → ((i : ℕ) → Keyed c j inside p (make p i)) → Keyed c j inside p (rows_at test make n p)
unfolding rows_at row_if
rows_keyed c j inside n p test make h = keyed_gather c j inside p (row_if test make p) n 1 (λ i. keyed_cond c j inside p (test p i) (make p i) (h i))

pub lines_keyed : (x : List ℕ) (p : ℕ) → Keyed line_size period_cell period_inside p (lines_at x (in_mode x 0) p)
unfolding lines_at line_at
lines_keyed x p = rows_keyed line_size period_cell period_inside (length x) p (listed x (in_mode x 0)) (line_at x) (λ i. line_keyed i p (copies x i p))

pub runs_keyed : (x : List ℕ) (p : ℕ) → Keyed run_size run_period_cell run_period_inside p (runs_at x p)
unfolding runs_at run_at
runs_keyed x p = rows_keyed run_size run_period_cell run_period_inside (length x) p (run_begins x) (run_at x) (λ i. run_keyed i (reach x p i) p)
