-- The list of runs: a run stands in it if and only if it is one, each once, strictly in order, by period, then by start; and where it ends. Assumes nothing.
use Prim.Native.Nat.{ℕ, ◌*◌, ◌≤◌, ◌<◌}
use mathlib.Core.Path.{◌≡◌, sym, ◌∙◌}
use mathlib.Core.Logic.{◌⊎◌, ◌↔◌, ◌≢◌}
use mathlib.Core.Bool.{true}
use mathlib.Core.List.{List, []}
use native.Mathlib.Omega.{arith}
use lib.ListN.{length}
use borrow.Author.Tests.{not-true}
use Rattle.words.specs.Range.{gather}
use Rattle.words.specs.Rows.{row, rows}
use Rattle.words.specs.ByPeriod.{by_period}
use Rattle.words.specs.Groups.{table, gap}
use Rattle.words.specs.Moves.{top}
use Rattle.words.proofs.Tests.{fails}
use Rattle.words.proofs.Rows.{Has}
use Rattle.words.proofs.ByPeriod.{all_full, row_passes, passes_row, rows_ordered, rows_once, period_none}
use Rattle.words.proofs.Lines.{rows-top}
use Rattle.words_runs.specs.Runs.{run, reach, run_of, run_size, run_begins, run_at, runs_at, runs}
use Rattle.words_runs.proofs.RunLayout.{run_length, run-some, run_tells}
use Rattle.words_runs.proofs.Runs.{Run, run_is, run-reach}
use Rattle.words_runs.proofs.Starts.{run_row}

-- every run has a run's length
pub run-at-length : (x : List ℕ) (p a : ℕ) → length (run_at x p a) ≡ run_size
unfolding run_at
run-at-length x p a = run_length a (reach x p a) p

-- a run begins where its period's distances do
pub begins_start : (x : List ℕ) (p a : ℕ) → run_begins x p a ≡ true → (1 ≤ p) × (gap (table x p) a ≡ p)
unfolding run_begins
begins_start x p a t =
    let R = (run_row x a (reach x p a) p (run_is x a (reach x p a) p t)).2 in
    (R.pos, R.starts a (omega arith) R.some)

module _ (x : List ℕ) where
  -- nothing is left over
  pub runs_full : length (runs x) ≡ run_size * rows run_size (runs x)
  unfolding runs
  runs_full = all_full run_size (length x) run-some (run_begins x) (run_at x) (run-at-length x)

  -- row k of the list is a run
  pub record Line (k : ℕ) : Type 0 where
    pub start : ℕ
    pub end : ℕ
    pub period : ℕ
    pub is : row run_size (runs x) k ≡ run_of start end period
    pub maximal : run x start end period ≡ true

  pub runs-row : (k : ℕ) → k < rows run_size (runs x) → Line k
  unfolding runs run_begins run_at
  runs-row k b =
      let r = row_passes run_size (length x) run-some (run_begins x) (run_at x) (run-at-length x) k b in
      record { start = r.1; end = reach x r.0 r.1; period = r.0; is = r.7; maximal = r.6 }

  -- (a, b, p) stands in the list if and only if it is a run
  pub runs_exactly : (a b p : ℕ) → Has run_size (runs x) (run_of a b p) ↔ (run x a b p ≡ true)
  unfolding runs run_begins run_at
  runs_exactly a b p = (λ h. only (runs-row h.0 h.1) h.2, every)
    where
      only : {k : ℕ} → Line k → row run_size (runs x) k ≡ run_of a b p → run x a b p ≡ true
      only m q =
          let same = run_tells m.start m.end m.period a b p (sym m.is ∙ q) in
          rw (← same.0, ← same.1, ← same.2) m.maximal

      every : run x a b p ≡ true → Has run_size (runs x) (run_of a b p)
      every t =
          let r : Run x a b p = run_is x a b p t in
          let e : reach x p a ≡ b = run-reach x a b p r in
          rw e at (passes_row run_size (length x) run-some (run_begins x) (run_at x) (run-at-length x) p a r.pos (omega (arith, r.twice, r.stop, r.start)) r.start (omega (arith, r.twice, r.stop, r.pos)) (rw e t))

  -- strictly in order: a smaller period first, then a smaller start
  pub runs_ordered : (h k a b p c d q : ℕ) → h < k → k < rows run_size (runs x) → row run_size (runs x) h ≡ run_of a b p → row run_size (runs x) k ≡ run_of c d q
      → (p < q) ⊎ ((p ≡ q) × (a < c))
  unfolding runs run_at
  runs_ordered h k a b p c d q l m u v =
      let w = rows_ordered run_size (length x) run-some (run_begins x) (run_at x) (run-at-length x) h k l m in
      let s = run_tells w.1 (reach x w.0 w.1) w.0 a b p (sym w.4 ∙ u) in
      let t = run_tells w.3 (reach x w.2 w.3) w.2 c d q (sym w.5 ∙ v) in
      rw (← s.0, ← s.2, ← t.0, ← t.2) w.6

  -- each once
  pub runs_once : (h k : ℕ) → h < rows run_size (runs x) → k < rows run_size (runs x) → row run_size (runs x) h ≡ row run_size (runs x) k → h ≡ k
  unfolding runs run_at
  runs_once =
      rows_once run_size (length x) run-some (run_begins x) (run_at x) (run-at-length x)
      (λ p a q c e. let s = run_tells a (reach x p a) p c (reach x q c) q e in (s.2, s.0))

  -- where no position has the distance p, no run has the period p
  pub runs-at-none : (p : ℕ) → ((i : ℕ) → 1 ≤ i → i ≤ length x → gap (table x p) i ≢ p) → runs_at x p ≡ []
  unfolding runs_at
  runs-at-none p ne =
      period_none (length x) (run_begins x) (run_at x) p
      (λ i a b. not-true (run_begins x p i) (fails (run_begins x p i) (λ t. ne i a b (begins_start x p i t).1)))

  -- so the list is that of the periods 1 to top
  pub runs-top : runs x ≡ gather (runs_at x) (top x) 1
  unfolding runs runs_at by_period
  runs-top = rows-top x (runs_at x) (λ p h. runs-at-none p)
