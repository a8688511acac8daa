-- The table after the queue of a width has moved is the table that the replay rule gives for the moves of that width. Assumes nothing.
use Prim.Native.Nat.{ℕ, suc, ◌≤◌}
use mathlib.Core.Path.{◌≡◌, ◌∙◌}
use mathlib.Core.List.{List}
use lib.ListN.{length}
use lib.Dec.{ltb, eqb}
use borrow.Author.Tests.{ltb-true, lt-ltb, eqb-true, eq-eqb}
use Rattle.words.specs.Range.{leader}
use Rattle.words.specs.Reads.{at}
use Rattle.words.specs.Groups.{Least}
use Rattle.words.specs.Moves.{moves_in, goes}
use Rattle.words.specs.Replay.{under, stays, after}
use Rattle.words.specs.Steps.{next_table}
use Rattle.words.proofs.Tests.{and_left, and_right, and_both, same_test}
use Rattle.words.proofs.Ranges.{column-same, leader_agrees}
use Rattle.words.proofs.Split.{leaving}
use Rattle.words.proofs.Moves.{moves_go}
use Rattle.refine.specs.Refine.{queue, has, leaves, together, next_of}
use Rattle.refine.proofs.Queue.{Moves, queue-moves, moves-queue}

module _ (t f : List ℕ) (L : Least t) where
  -- a position is in the queue exactly if the rule of moves moves it
  leaving-has : (i : ℕ) → 1 ≤ i → leaving t f i ≡ has (queue t f) i
  leaving-has i a =
      let A = ltb i (length t) in
      let B = eqb (at f (at t (suc i))) 1 in
      same_test (leaving t f i) (has (queue t f) i)
      (λ e. moves-queue t f L i (a, ltb-true i (length t) (and_left A B e), eqb-true (at f (at t (suc i))) 1 (and_right A B e)))
      (λ h.
      let m : Moves t f i = queue-moves t f i h in
      and_both A B (lt-ltb i (length t) m.1) (eq-eqb (at f (at t (suc i))) 1 m.2))

  -- and under the same name
  goes-leaves : (i : ℕ) → 1 ≤ i → goes t f i ≡ leaves t (queue t f) i
  unfolding goes leaves
  goes-leaves i a = rw (leaving-has i a)

  pub next-table-queue : (w : ℕ) → next_table w t f ≡ next_of t (queue t f)
  unfolding next_table after next_of
  next-table-queue w =
      column-same (leader (stays t (moves_in w t f) w)) (leader (together t (queue t f))) (length t)
      (λ i a b. leader_agrees (stays t (moves_in w t f) w) (together t (queue t f)) i (λ j c d. joined j i c a))
    where
      alike : (i : ℕ) → 1 ≤ i → under (moves_in w t f) w i ≡ leaves t (queue t f) i
      alike i a = moves_go t f L w i a ∙ goes-leaves i a

      joined : (i j : ℕ) → 1 ≤ i → 1 ≤ j → stays t (moves_in w t f) w i j ≡ together t (queue t f) i j
      joined i j a c = unfold stays together in (rw (alike i a, alike j c))
