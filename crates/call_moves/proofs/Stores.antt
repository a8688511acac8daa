-- The moves of a queue, stored place by place. Assumes nothing.
use Prim.Native.Nat.{ℕ, suc, ◌+◌, ◌*◌}
use mathlib.Core.Path.{◌≡◌, sym, ap, ◌∙◌}
use mathlib.Core.List.{List, ◌++◌}
use native.Mathlib.Omega.{arith}
use lib.ListN.{length}
use Rattle.words.specs.Range.{gather}
use Rattle.words.specs.Reads.{at}
use Rattle.words.specs.Moves.{move_of, move_size}
use Rattle.words.proofs.Ranges.{gather_more}
use Rattle.words.proofs.Sums.{sum_same, sum_const, length-gather}
use Rattle.words.proofs.MoveLayout.{move_length}
use Rattle.row_cells.specs.Stored.{stored}
use Rattle.row_cells.proofs.Stored.{stored-append, stored-none}
use Rattle.call_moves.specs.Queued.{move_from, moves_to}

module _ (w : ℕ) (name que : List ℕ) where
  moves-to-length : (q : ℕ) → length (moves_to w name que q) ≡ move_size * q
  unfolding moves_to move_from
  moves-to-length q =
      length-gather (move_from w name que) q 1
      ∙ sum_same (λ k. length (move_from w name que k)) (λ k. move_size) q 1 (λ k a b. move_length w (at name (suc (at que k))) (at que k))
      ∙ sum_const move_size q 1
      ∙ omega arith

  -- no move is written yet
  pub moves_to_begin : (old : List ℕ) (from : ℕ) → old ≡ stored old from (moves_to w name que 0)
  unfolding moves_to gather
  moves_to_begin old from = sym (stored-none old from)

  -- one move more
  pub moves_to_more : (old out new : List ℕ) (from q k s i : ℕ) → out ≡ stored old from (moves_to w name que q) → k ≡ from + move_size * q
      → i ≡ at que (q + 1) → s ≡ at name (i + 1) → new ≡ stored out k (move_of w s i) → new ≡ stored old from (moves_to w name que (q + 1))
  unfolding moves_to move_from
  moves_to_more old out new from q k s i o e p n r =
      r
      ∙ ap (λ (v : List ℕ). stored v k (move_of w s i)) o
      ∙ ap (λ (v : ℕ). stored (stored old from (moves_to w name que q)) v (move_of w s i)) (omega (arith, moves-to-length q))
      ∙ sym (stored-append old (moves_to w name que q) (move_of w s i) from)
      ∙ ap (λ (v : List ℕ). stored old from (moves_to w name que q ++ v)) move
      ∙ ap (stored old from) (sym (gather_more (move_from w name que) q 1))
      ∙ ap (λ (v : ℕ). stored old from (moves_to w name que v)) (omega arith)
    where
      place : i ≡ at que (1 + q)
      place = p ∙ ap (at que) (omega arith)

      move : move_of w s i ≡ move_from w name que (1 + q)
      move = ap (λ (v : ℕ). move_of w v i) (n ∙ ap (at name) (omega arith)) ∙ ap (λ (v : ℕ). move_of w (at name (suc v)) v) place
