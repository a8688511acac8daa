-- There are no more runs than repeats: each run begins with a repeat of its period. Assumes nothing.
use Prim.Native.Nat.{ℕ, ◌≤◌}
use mathlib.Core.Path.{◌≡◌, ◌∙◌}
use mathlib.Core.Bool.{true}
use mathlib.Core.List.{List}
use native.Mathlib.Omega.{arith}
use lib.ListN.{length}
use lib.Dec.{eqb}
use borrow.Author.Tests.{eq-eqb}
use Rattle.words.specs.Range.{bit, count}
use Rattle.words.specs.Groups.{table, gap}
use Rattle.words.specs.Lists.{line_size, line_at, listed, lines, line_count, in_mode}
use Rattle.words.proofs.Tests.{and_both, bit_mono}
use Rattle.words.proofs.Sums.{sum_le}
use Rattle.words.proofs.ByPeriod.{rows-counted}
use Rattle.words.proofs.LineLayout.{line-some}
use Rattle.words.proofs.Lines.{listed-gap}
use Rattle.words.proofs.Lists.{line-at-length, mode_all}
use Rattle.words_runs.specs.Runs.{run_size, run_begins, run_at, runs, run_count}
use Rattle.words_runs.proofs.RunLayout.{run-some}
use Rattle.words_runs.proofs.Lists.{run-at-length, begins_start}

module _ (x : List ℕ) where
  begins-listed : (p a : ℕ) → 1 ≤ a → a ≤ length x → run_begins x p a ≡ true → listed x (in_mode x 0) p a ≡ true
  begins-listed p a h l t =
      let s = begins_start x p a t in
      listed-gap x (in_mode x 0) p a h l s.0 ∙ and_both (eqb (gap (table x p) a) p) (in_mode x 0 p a) (eq-eqb (gap (table x p) a) p s.1) (mode_all x p a)

  pub runs_no_more : run_count x ≤ line_count x (in_mode x 0)
  unfolding run_count runs line_count lines count
  runs_no_more =
      let r = rows-counted run_size (length x) run-some (run_begins x) (run_at x) (run-at-length x) in
      let l = rows-counted line_size (length x) line-some (listed x (in_mode x 0)) (line_at x) (line-at-length x) in
      omega (
        arith,
        r,
        l,
        sum_le (λ p. count (run_begins x p) (length x) 1) (λ p. count (listed x (in_mode x 0) p) (length x) 1) (length x) 1
            (λ p a b. sum_le (λ i. bit (run_begins x p i)) (λ i. bit (listed x (in_mode x 0) p i)) (length x) 1
            (λ i c d. bit_mono (run_begins x p i) (listed x (in_mode x 0) p i) (begins-listed p i c (omega arith)))),
      )
