-- The judge's turns: the lines so far are in their places. Assumes nothing.
use Prim.Native.Nat.{ℕ, ◌*◌, ◌≤◌, ◌<◌}
use mathlib.Core.Path.{◌≡◌, sym}
use mathlib.Core.Bool.{false, not}
use mathlib.Core.List.{List}
use native.Mathlib.Omega.{arith}
use lib.ListN.{length}
use Rattle.words.specs.Rows.{rows}
use Rattle.words.specs.Lists.{line_size}
use Rattle.words.proofs.Searches.{Missed, first_hit, first_ended}
use Rattle.row_cells.proofs.Adding.{room_fits}
use Rattle.words_index.specs.Index.{placed, first_loose}
use Rattle.words_index.proofs.Ordered.{loose_high}

module _ (l : List ℕ) (k : ℕ) (m : Missed (λ h. not (placed l h)) 0 k) where
  pub loose_here : k < rows line_size l → placed l k ≡ false → k ≡ first_loose l
  unfolding first_loose
  loose_here b f = sym (first_hit (λ h. not (placed l h)) (rows line_size l) 0 k m (omega arith) (omega arith) (rw f))

  pub loose_none : k ≤ rows line_size l → rows line_size l ≤ k → k ≡ first_loose l
  unfolding first_loose
  loose_none a b = sym (first_ended (λ h. not (placed l h)) (rows line_size l) 0 k m (omega arith))

-- the lines before the first one out of place lie in the list
pub loose_fits : (l : List ℕ) → line_size * first_loose l ≤ length l
loose_fits l = room_fits line_size l (first_loose l) (loose_high l)
