-- List and groups agree, as they must: for every read and every period from 1 on, the lines that the groups of that width give are the
-- lines of the list. A start is where the distance is the period, and the copies are counted by the starts in a row. Assumes nothing.
use Prim.Native.Nat.{ℕ, zero, suc, ◌+◌, ◌*◌, ◌≤◌, ◌<◌}
use mathlib.Core.Path.{◌≡◌, sym, ap, ◌∙◌}
use mathlib.Core.Logic.{⊎_elim, ◌≢◌}
use mathlib.Core.Bool.{true, false}
use mathlib.Core.List.{List}
use native.Mathlib.Omega.{arith}
use native.Mathlib.Nat.{mul-le-mul_right}
use lib.ListN.{length}
use lib.Dec.{eqb}
use borrow.Author.Tests.{eqb-true, eqb-false, not-true, not-false}
use Rattle.words.specs.Range.{first, gather}
use Rattle.words.specs.Repeats.{copies}
use Rattle.words.specs.Groups.{table, gap}
use Rattle.words.specs.Lists.{line_at, line, lines_at, in_mode}
use Rattle.words.proofs.Tests.{either}
use Rattle.words.proofs.Ranges.{Found, found, gather-same}
use Rattle.words.proofs.Groups.{table-length}
use Rattle.words.proofs.Stretches.{same_self}
use Rattle.words.proofs.Lists.{mode_all}
use Rattle.words.proofs.Lines.{line-gap, lines-at-each}
use Rattle.words.proofs.Copies.{copies-chain, copies_two}
use Rattle.bench_agrees.specs.Agreement.{starts, copies_in, line_in, lines_in, agrees_at}
use Rattle.bench_agrees.proofs.Gaps.{stops, gap-inside}

module _ (x : List ℕ) (p : ℕ) (h : 1 ≤ p) where
  -- m + 1 starts in a row and no more
  run-copies : (m i : ℕ) → 1 ≤ i → ((k : ℕ) → k < suc m → gap (table x p) (i + p * k) ≡ p) → gap (table x p) (i + p * suc m) ≢ p
      → copies x i p ≡ suc (suc m)
  run-copies zero i a f ne =
      copies_two x i p a h (ap (gap (table x p)) (omega arith) ∙ f 0 (omega arith)) (λ e. ne (ap (gap (table x p)) (omega arith) ∙ e))
  run-copies (suc m) i a f ne =
      copies-chain x i p a h (ap (gap (table x p)) (omega arith) ∙ f 0 (omega arith))
      ∙ ap suc
      (run-copies m (i + p) (omega arith) (λ k l. ap (gap (table x p)) (omega arith) ∙ f (suc k) (omega arith))
      (λ e. ne (ap (gap (table x p)) (omega arith) ∙ e)))

  module _ (i : ℕ) (a : 1 ≤ i) where
    F : Found (stops (table x p) p i) (length (table x p)) 0 (first (stops (table x p) p i) (length (table x p)) 0)
    F = found (stops (table x p) p i) (length (table x p)) 0

    starts-gap : (k : ℕ) → stops (table x p) p i k ≡ false → gap (table x p) (i + p * k) ≡ p
    unfolding starts
    starts-gap k t = eqb-true (gap (table x p) (i + p * k)) p (not-false (eqb (gap (table x p) (i + p * k)) p) t)

    ends-gap : (k : ℕ) → stops (table x p) p i k ≡ true → gap (table x p) (i + p * k) ≢ p
    unfolding starts
    ends-gap k t = eqb-false (gap (table x p) (i + p * k)) p (not-true (eqb (gap (table x p) (i + p * k)) p) t)

    -- k starts in a row lie in the table
    run_inside : (k : ℕ) → gap (table x p) (i + p * k) ≡ p → suc k < length (table x p)
    run_inside k e = ⊎_elim (λ z. absurd (omega arith)) (λ z. omega (arith, mul-le-mul_right k h)) (gap-inside (table x p) (i + p * k))

    copies_in_lem : gap (table x p) i ≡ p → copies x i p ≡ copies_in (table x p) p i
    unfolding copies_in
    copies_in_lem e = go (first (stops (table x p) p i) (length (table x p)) 0) F
      where
        go : (m : ℕ) → Found (stops (table x p) p i) (length (table x p)) 0 m → copies x i p ≡ suc m
        go zero f =
            absurd (ends-gap 0 (f.pass (omega (arith, run_inside 0 (ap (gap (table x p)) (omega arith) ∙ e))))
            (ap (gap (table x p)) (omega arith) ∙ e))
        go (suc m) f =
            run-copies m i a (λ k l. starts-gap k (f.least k (omega arith) l))
            (ends-gap (suc m) (f.pass (omega (arith, run_inside m (starts-gap m (f.least m (omega arith) (omega arith)))))))

    line_agrees : i ≤ length x → line_in (table x p) p i ≡ line x (in_mode x 0) p i
    unfolding line_in starts line_at
    line_agrees b =
        sym
        (line-gap x (in_mode x 0) p i a b h
        ∙ ⊎_elim
        (λ (t : eqb (gap (table x p) i) p ≡ true). rw (t, mode_all x p i, copies_in_lem (eqb-true (gap (table x p) i) p t)))
        (λ (t : eqb (gap (table x p) i) p ≡ false). rw t)
        (either (eqb (gap (table x p) i) p)))

  pub lines-agree : lines_in (table x p) p ≡ lines_at x (in_mode x 0) p
  unfolding lines_in
  lines-agree =
      ap (λ (n : ℕ). gather (line_in (table x p) p) n 1) (table-length x p)
      ∙ gather-same (line_in (table x p) p) (line x (in_mode x 0) p) (length x) 1 (λ i a b. line_agrees i a (omega arith))
      ∙ sym (lines-at-each x (in_mode x 0) p)

  -- what the check of the bench says of a read's own groups and list
  pub list_and_groups_agree : agrees_at (table x p) p (lines_at x (in_mode x 0) p) ≡ true
  unfolding agrees_at
  list_and_groups_agree = rw lines-agree (same_self (lines_at x (in_mode x 0) p))
