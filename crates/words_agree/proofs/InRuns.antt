-- Which lines the runs of a list give, by the law of one line: those of one run, those of all, and two that two runs give. They stand apart, so that a wrong
-- line is refused by its own law. Assumes nothing.
use Prim.Native.Nat.{ℕ, suc, ◌-◌, ◌<◌}
use mathlib.Core.Path.{◌≡◌, refl, ap, ◌∙◌}
use mathlib.Core.Logic.{◌↔◌}
use mathlib.Core.Bool.{true}
use mathlib.Core.List.{List}
use native.Mathlib.Omega.{arith}
use Rattle.words.specs.Rows.{rows, row}
use Rattle.words.specs.Lists.{line_of, line_size}
use Rattle.words.proofs.Rows.{Has, has-gather, gather-has, gather_two}
use Rattle.words.proofs.LineLayout.{line-some}
use Rattle.words_runs.specs.Runs.{run_of, run_size, run_start, run_end, run_period}
use Rattle.words_runs.proofs.RunLayout.{run_spelled}
use Rattle.words_agree.specs.Agree.{whole_periods, counts}
use Rattle.words_agree.specs.Lists.{line_by, lines_by, lines_by_row, lines_by_runs}
use Rattle.words_agree.proofs.Words.{counts_is, is_counts}
use Rattle.words_agree.proofs.ByRow.{line_full, lines_full, has-line, row-lines}

-- .. and the lines by that run
has-lines : (a b p i q e : ℕ) → Has line_size (lines_by a b p) (line_of i q e) ↔ ((p ≡ q) × (counts a b i p e ≡ true))
unfolding lines_by
has-lines a b p i q e = (
  λ h.
      let g = gather-has line_size line-some (line_by p b) (line_of i q e) (suc b - a) a (λ k l m. line_full b p k) h in
      let w = (has-line b p g.0 i q e).0 g.3 in
      (w.1, is_counts a b i p e (omega (arith, g.1, w.0)) (omega (arith, g.1, g.2, w.0)) w.2 (w.3 ∙ ap (λ (v : ℕ). whole_periods p v b) w.0)),
  λ w.
      let c = counts_is a b i p e w.1 in
      has-gather line_size line-some (line_by p b) (line_of i q e) (suc b - a) a i c.0 (omega (arith, c.0, c.1)) (λ k l m. line_full b p k)
      ((has-line b p i i q e).1 (refl, w.0, c.2, c.3)),
)

-- (i, p, e) is a line by the runs of a list if and only if one of them, of period p, covers i and e, at least 2, is the number of whole periods to its end
pub has_by_runs : (s : List ℕ) (i p e : ℕ) → Has line_size (lines_by_runs s) (line_of i p e) ↔ ((a b : ℕ) × Has run_size s (run_of a b p) × (counts a b i p e ≡ true))
unfolding lines_by_runs lines_by_row
has_by_runs s i p e = (
  λ h.
      let g = gather-has line_size line-some (lines_by_row s) (line_of i p e) (rows run_size s) 0 (λ k l m. lines_full (run_start s k) (run_end s k) (run_period s k)) h in
      let k : ℕ = g.0 in
      let w = (has-lines (run_start s k) (run_end s k) (run_period s k) i p e).0 g.3 in
      (run_start s k, run_end s k, (k, omega (arith, g.2), run_spelled s k (omega (arith, g.2)) ∙ ap (run_of (run_start s k) (run_end s k)) w.0), rw w.0 at w.1),
  λ w.
      let k : ℕ = w.2.0 in
      has-gather line_size line-some (lines_by_row s) (line_of i p e) (rows run_size s) 0 k (omega arith) (omega (arith, w.2.1)) (λ h l m. lines_full (run_start s h) (run_end s h) (run_period s h))
      (rw (row-lines s k w.0 w.1 p w.2.2) ((has-lines w.0 w.1 p i p e).1 (refl, w.3))),
)

-- runs k and h of a list both count one of (i, p, ..): the lines by the one stand before those by the other
pub two_by_runs : (s : List ℕ) (k h a b c d i p e f : ℕ) → k < h → h < rows run_size s → row run_size s k ≡ run_of a b p → row run_size s h ≡ run_of c d p
    → counts a b i p e ≡ true → counts c d i p f ≡ true
    → (m n : ℕ) × (m < n) × (n < rows line_size (lines_by_runs s)) × (row line_size (lines_by_runs s) m ≡ line_of i p e) × (row line_size (lines_by_runs s) n ≡ line_of i p f)
unfolding lines_by_runs lines_by_row
two_by_runs s k h a b c d i p e f l m u v t w =
    gather_two line_size line-some (lines_by_row s) (line_of i p e) (line_of i p f) (rows run_size s) 0 k h (omega arith) l (omega arith)
    (λ j y z. lines_full (run_start s j) (run_end s j) (run_period s j))
    (rw (row-lines s k a b p u) ((has-lines a b p i p e).1 (refl, t)))
    (rw (row-lines s h c d p v) ((has-lines c d p i p f).1 (refl, w)))
