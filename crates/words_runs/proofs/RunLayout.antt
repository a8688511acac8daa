-- The layout of a run: what anything above knows of it. Only this file opens `run_of`, `run_size` and which number of a run is which, but for `row_runs` and the computed
-- examples. Assumes nothing.
use Prim.Native.Nat.{ℕ, ◌≤◌, ◌<◌}
use mathlib.Core.Path.{◌≡◌, refl, sym, ap, ◌∙◌}
use mathlib.Core.List.{List, [], ◌∷◌}
use native.Mathlib.Omega.{arith}
use lib.ListN.{length, get_or}
use Rattle.words.specs.Rows.{widest, rows, row, cell}
use Rattle.words.proofs.Rows.{row-cell, row-length}
use Rattle.words_runs.specs.Runs.{run_of, run_size, run_period_cell, run_start, run_end, run_period}

pub run_length : (a b p : ℕ) → length (run_of a b p) ≡ run_size
unfolding run_of run_size
run_length a b p = refl

pub run-some : 1 ≤ run_size
unfolding run_size
run-some = omega arith

pub run_few : run_size ≤ widest
unfolding run_size
run_few = omega arith

-- a run tells its start, its end and its period
pub run_tells : (a b p c d q : ℕ) → run_of a b p ≡ run_of c d q → (a ≡ c) × (b ≡ d) × (p ≡ q)
unfolding run_of
run_tells a b p c d q h = (ap (λ (l : List ℕ). get_or l 0 0) h, ap (λ (l : List ℕ). get_or l 1 0) h, ap (λ (l : List ℕ). get_or l 2 0) h)

-- the period stands in the run
pub run_period_inside : run_period_cell < run_size
unfolding run_period_cell run_size
run_period_inside = omega arith

-- what a run of a list says of its start, its end and its period
pub run_says : (l : List ℕ) (k a b p : ℕ) → row run_size l k ≡ run_of a b p → (run_start l k ≡ a) × (run_end l k ≡ b) × (run_period l k ≡ p)
unfolding run_start run_end run_period run_of run_size run_period_cell
run_says l k a b p h = (
  sym (row-cell 3 l k 0 (omega arith)) ∙ ap (λ (r : List ℕ). get_or r 0 0) h,
  sym (row-cell 3 l k 1 (omega arith)) ∙ ap (λ (r : List ℕ). get_or r 1 0) h,
  sym (row-cell 3 l k 2 (omega arith)) ∙ ap (λ (r : List ℕ). get_or r 2 0) h,
)

-- a run that stands in two lists says the same in both
pub run_only : (l m : List ℕ) (h k : ℕ) → row run_size l h ≡ row run_size m k → (run_start l h ≡ run_start m k) × (run_end l h ≡ run_end m k) × (run_period l h ≡ run_period m k)
unfolding run_start run_end run_period run_size run_period_cell
run_only l m h k e = (
  sym (row-cell 3 l h 0 (omega arith)) ∙ ap (λ (r : List ℕ). get_or r 0 0) e ∙ row-cell 3 m k 0 (omega arith),
  sym (row-cell 3 l h 1 (omega arith)) ∙ ap (λ (r : List ℕ). get_or r 1 0) e ∙ row-cell 3 m k 1 (omega arith),
  sym (row-cell 3 l h 2 (omega arith)) ∙ ap (λ (r : List ℕ). get_or r 2 0) e ∙ row-cell 3 m k 2 (omega arith),
)

pub run_period_lem : (l : List ℕ) (k a b p : ℕ) → row run_size l k ≡ run_of a b p → cell run_size l k run_period_cell ≡ p
unfolding run_period
run_period_lem l k a b p h = (run_says l k a b p h).2

spelled : (r : List ℕ) → length r ≡ 3 → r ≡ get_or r 0 0 ∷ get_or r 1 0 ∷ get_or r 2 0 ∷ []
spelled (a ∷ b ∷ p ∷ []) h = refl
spelled (a ∷ b ∷ p ∷ q ∷ l) h = absurd (omega arith)
spelled (a ∷ b ∷ []) h = absurd (omega arith)
spelled (a ∷ []) h = absurd (omega arith)
spelled [] h = absurd (omega arith)

-- a run of any list is what it says
pub run_spelled : (l : List ℕ) (k : ℕ) → k < rows run_size l → row run_size l k ≡ run_of (run_start l k) (run_end l k) (run_period l k)
unfolding run_start run_end run_period run_of run_size run_period_cell
run_spelled l k h =
    spelled (row 3 l k) (row-length 3 l k h)
    ∙ rw (row-cell 3 l k 0 (omega arith), row-cell 3 l k 1 (omega arith), row-cell 3 l k 2 (omega arith))
