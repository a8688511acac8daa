-- The partitions of a read, one after another: each holds the groups of its width, and what the steps answer sums to the log's number of
-- moves. Assumes nothing.
use Prim.Native.Nat.{ℕ, zero, suc, ◌-◌, ◌≤◌, ◌<◌}
use mathlib.Core.Path.{◌≡◌, sym, ap, ◌∙◌}
use mathlib.Core.List.{List}
use native.Mathlib.Omega.{arith}
use lib.ListN.{length}
use Rattle.words.specs.Range.{sum}
use Rattle.words.specs.Rows.{rows}
use Rattle.words.specs.Groups.{table}
use Rattle.words.specs.Moves.{top_of, top, move_size, move_count, log}
use Rattle.words.specs.Steps.{step_width, step_table, step_smalls, step_count}
use Rattle.words.proofs.Rows.{rows_times}
use Rattle.words.proofs.Sums.{sum_same}
use Rattle.words.proofs.Groups.{table-length}
use Rattle.words.proofs.MoveLayout.{move_some}
use Rattle.words.proofs.Room.{move_count_at, log-length}
use Rattle.partition.specs.Stand.{Of, groups, small_ones}
use Rattle.partition.specs.declared.Partition.{Partition}
use Rattle.partition.proofs.Steps.{step_on}
use Rattle.partition.proofs.OfRead.{of_groups, of_smalls, of_least, step_of}
use Rattle.partition.proofs.Partition.fresh.Reads as fresh
use Rattle.partition.proofs.Partition.step.Reads as step

-- by the contracts of `fresh` and of `step`, p w is the partition of the read x at width w, and m w is what its step answers
pub record Steps (x : List ℕ) (p : ℕ → Partition) (m : ℕ → ℕ) : Type 0 where
  pub made : (κs : _) × (a : _) × (e : _) × fresh.Learnt κs a (p 1) e × (a.0.now ≡ x)
  pub next : (w : ℕ) → 1 ≤ w → (κs : _) × (e : _) × step.Learnt κs (p w, tt) (record { partition = p (suc w); moves = m w }) e

module _ (x : List ℕ) (p : ℕ → Partition) (m : ℕ → ℕ) (S : Steps x p m) where
  step_once : (w : ℕ) → 1 ≤ w → w < length x → Of x w (p w) → Of x (suc w) (p (suc w))
  step_once w a b O =
      let L = (S.next w a).2 in
      step_of x w (p w) (p (suc w)) a b O L.0 L.1
      (L.2 ∙ ap (λ (u : ℕ). step_width u (groups (p w))) O.width)
      (L.3 ∙ ap (λ (u : ℕ). step_table u (groups (p w)) (small_ones (p w))) O.width)
      (L.4 ∙ ap (λ (u : ℕ). step_smalls u (groups (p w)) (small_ones (p w))) O.width)

  -- at every width of the read
  pub steps_of : (w : ℕ) → 1 ≤ w → w ≤ length x → Of x w (p w)
  steps_of zero a b = absurd (omega arith)
  steps_of (suc zero) a b = rw (← S.made.4) S.made.3
  steps_of (suc (suc v)) a b = step_once (suc v) (omega arith) (omega arith) (steps_of (suc v) (omega arith) (omega arith))

  -- a step answers the number of moves that the rule gives for its width
  steps_count : (w : ℕ) → 1 ≤ w → w < length x → m w ≡ move_count_at x w
  steps_count w a b =
      let O = steps_of w a (omega arith) in
      let s = step_on w (groups (p w)) (small_ones (p w)) (omega (arith, ap length (of_groups x w (p w) O), table-length x w)) (of_least x w (p w) O) in
      (S.next w a).2.5 ∙ ap (λ (u : ℕ). step_count u (groups (p w)) (small_ones (p w))) O.width ∙ s.3
      ∙ ap (λ (t : List ℕ). move_count t (small_ones (p w))) (of_groups x w (p w) O) ∙ ap (move_count (table x w)) (of_smalls x w (p w) O)

  -- summed over the widths of the log, its number of moves
  pub steps_sum : sum m (top x - 1) 1 ≡ rows move_size (log x)
  unfolding top top_of
  steps_sum =
      sum_same m (λ w. move_count_at x w) (top x - 1) 1 (λ w a b. steps_count w a (omega arith))
      ∙ sym (rows_times move_size (log x) _ move_some (log-length x))
