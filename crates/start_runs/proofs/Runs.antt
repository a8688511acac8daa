-- The runs of a period as they are read off the distances are those of the read. Assumes nothing.
use Prim.Native.Nat.{ℕ, suc, ◌+◌, ◌-◌, ◌*◌, ◌≤◌, ◌<◌}
use mathlib.Core.Path.{◌≡◌, refl, sym, ap, ◌∙◌}
use mathlib.Core.Logic.{inl, inr, ⊎_elim, ◌≢◌}
use mathlib.Core.Bool.{Bool, true, false, ◌&&◌, not, cond}
use mathlib.Core.List.{List, []}
use native.Mathlib.Omega.{arith}
use lib.ListN.{length}
use lib.Dec.{leb, eqb}
use borrow.Author.Tests.{eqb-true, eqb-false, eq-eqb, ne_eqb, leb-true, le-leb, not-true}
use Rattle.words.specs.ByPeriod.{row_if, rows_at}
use Rattle.words.specs.Reads.{at}
use Rattle.words.proofs.Tests.{lt_or_ge, same_test, and_left, and_right, and_both, or_cases, or_left, or_right, fails}
use Rattle.words.proofs.Ranges.{gather-same, gather_stop}
use Rattle.words_runs.specs.Runs.{reach, run_of, run_begins, run_at, runs_at}
use Rattle.words_runs.proofs.Runs.{Run, run_is, is_run, run-reach}
use Rattle.words_runs.proofs.Starts.{Row, row-run, run_row}
use Rattle.start_places.specs.Starts.{Near, Gapped}
use Rattle.start_places.proofs.Starts.{no_start_beyond, start_gap, gap_start}
use Rattle.start_runs.specs.Runs.{first_in, last_in, run_in, runs_in}
use Rattle.start_runs.proofs.Rows.{last_low, row-starts, row_ends}

module _ (dist : List ℕ) (p : ℕ) where
  -- no start, no run
  pub run_in_none : (i : ℕ) → at dist i ≢ p → run_in dist p i ≡ []
  unfolding run_in
  run_in_none i ne = rw (ne_eqb (at dist i) p ne)

  -- nor where a start stands just before
  pub run_in_later : (i : ℕ) → at dist i ≡ p → first_in dist p i ≡ false → run_in dist p i ≡ []
  unfolding run_in
  run_in_later i e f = rw (eq-eqb (at dist i) p e, f)

  pub run_in_first : (i : ℕ) → at dist i ≡ p → first_in dist p i ≡ true → run_in dist p i ≡ run_of i (last_in dist p i + 2 * p - 1) p
  unfolding run_in
  run_in_first i e f = rw (eq-eqb (at dist i) p e, f)

  module _ (N : Near p dist) (x : List ℕ) (G : Gapped x p dist) where
    -- the starts from i on are a longest row of the read's
    row_at : (i : ℕ) → 1 ≤ i → at dist i ≡ p → first_in dist p i ≡ true → Row x p i (last_in dist p i)
    unfolding first_in
    row_at i a e t =
        record {
          pos = N.some;
          low = a;
          some = last_low dist p N i a e;
          starts = λ k l m. start_gap dist p N x G k (omega arith) (row-starts dist p N i a e k l m);
          first = ⊎_elim
              (λ q. inl (leb-true i 1 q))
              (λ q. ⊎_elim
              (λ (l : 1 < i). inr (λ g. eqb-false (at dist (i - 1)) p (not-true (eqb (at dist (i - 1)) p) q) (gap_start dist p N x G (i - 1) (omega arith) g)))
              inl
              (lt_or_ge 1 i))
              (or_cases (leb i 1) (not (eqb (at dist (i - 1)) p)) t);
          last = λ g. row_ends dist p N i a e (gap_start dist p N x G (suc (last_in dist p i)) (omega arith) g);
        }

    run-at : (i : ℕ) → 1 ≤ i → at dist i ≡ p → first_in dist p i ≡ true → Run x i (last_in dist p i + 2 * p - 1) p
    run-at i a e t = row-run x p i (last_in dist p i) (row_at i a e t)

    -- a run of the read begins exactly where the code finds one
    begins_in : (i : ℕ) → 1 ≤ i → run_begins x p i ≡ eqb (at dist i) p && first_in dist p i
    unfolding run_begins first_in
    begins_in i a = same_test (run_begins x p i) (eqb (at dist i) p && first_in dist p i) to from
      where
        to : run_begins x p i ≡ true → eqb (at dist i) p && first_in dist p i ≡ true
        to t =
            let R = (run_row x i (reach x p i) p (run_is x i (reach x p i) p t)).2 in
            and_both (eqb (at dist i) p) (first_in dist p i)
            (eq-eqb (at dist i) p (gap_start dist p N x G i a (R.starts i (omega arith) R.some)))
            (⊎_elim
            (λ l. or_left (leb i 1) (not (eqb (at dist (i - 1)) p)) (le-leb i 1 l))
            (λ ne. ⊎_elim
            (λ (l : 1 < i). or_right (leb i 1) (not (eqb (at dist (i - 1)) p)) (fails (eqb (at dist (i - 1)) p) (λ q. ne (start_gap dist p N x G (i - 1) (omega arith) (eqb-true (at dist (i - 1)) p q)))))
            (λ l. or_left (leb i 1) (not (eqb (at dist (i - 1)) p)) (le-leb i 1 l))
            (lt_or_ge 1 i))
            R.first)

        from : eqb (at dist i) p && first_in dist p i ≡ true → run_begins x p i ≡ true
        from t =
            let e : at dist i ≡ p = eqb-true (at dist i) p (and_left (eqb (at dist i) p) (first_in dist p i) t) in
            let R = run-at i a e (and_right (eqb (at dist i) p) (first_in dist p i) t) in
            rw (run-reach x i (last_in dist p i + 2 * p - 1) p R) (is_run x i (last_in dist p i + 2 * p - 1) p R)

    run_in_lem : (i : ℕ) → 1 ≤ i → row_if (run_begins x) (run_at x) p i ≡ run_in dist p i
    unfolding row_if run_at run_in
    run_in_lem i a = rw (begins_in i a) (go (eqb (at dist i) p) (first_in dist p i) refl refl)
      where
        go : (s t : Bool) → eqb (at dist i) p ≡ s → first_in dist p i ≡ t → cond (s && t) (run_of i (reach x p i) p) [] ≡ cond (s && t) (run_of i (last_in dist p i + 2 * p - 1) p) []
        go true true q r =
            ap (λ (v : ℕ). run_of i v p) (run-reach x i (last_in dist p i + 2 * p - 1) p (run-at i a (eqb-true (at dist i) p q) r))
        go true false q r = refl
        go false t q r = refl

    -- the runs of the period
    pub runs_in_lem : runs_at x p ≡ runs_in dist p
    unfolding runs_at rows_at runs_in
    runs_in_lem =
        gather-same (row_if (run_begins x) (run_at x) p) (run_in dist p) (length x) 1 (λ i a b. run_in_lem i a)
        ∙ sym (gather_stop (run_in dist p) (length x) 1000 1 G.few (λ i a b. run_in_none i (no_start_beyond dist p N x G i (omega arith))))
