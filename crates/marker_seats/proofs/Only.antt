-- What a search with room for one place tells: how many places there are, and where the only one is. Assumes nothing.
use Prim.Native.Nat.{ℕ, ◌≤◌}
use mathlib.Core.Path.{◌≡◌, ap, ◌∙◌}
use mathlib.Core.List.{List}
use native.Mathlib.Omega.{arith}
use lib.ListN.{length, get_or, drop, get_or-append}
use Rattle.row_cells.specs.Listing.{Listing}
use Rattle.words_markers.specs.Sites.{only}

module _ (l old out : List ℕ) (r : ℕ) (L : Listing 1 old l r out) where
  pub counted : length l ≡ r
  counted = omega (arith, L.count)

  pub only_place : r ≡ 1 → 1 ≤ length old → get_or out 0 0 ≡ only l
  unfolding only
  only_place e h = ap (λ (v : List ℕ). get_or v 0 0) (L.front (omega (arith, counted))) ∙ get_or-append l (drop (length l) old) 0 0 (omega (arith, counted))
