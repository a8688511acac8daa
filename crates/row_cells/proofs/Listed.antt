-- A list that was written, as far as there was room: whether it found room, and what stands in the slice then. Assumes nothing.
use Prim.Native.Nat.{ℕ, ◌/◌, ◌≤◌, ◌<◌}
use mathlib.Core.Path.{◌≡◌, sym, ap}
use mathlib.Core.Bool.{true, false}
use mathlib.Core.List.{List, ◌++◌}
use native.Mathlib.Omega.{arith}
use lib.ListN.{length, drop}
use lib.Dec.{ltb}
use borrow.Author.Tests.{lt-ltb, le-ltb}
use Rattle.words.specs.Rows.{rows}
use Rattle.words.proofs.Rows.{rows_times}
use Rattle.row_cells.specs.Listing.{Listing}
use Rattle.row_cells.proofs.Adding.{room_fits}

module _ (c : ℕ) (old l out : List ℕ) (r : ℕ) (some : 1 ≤ c) (L : Listing c old l r out) where
  -- however many of them were written, the rows are as many as the list has
  pub listing_rows : rows c l ≡ r
  listing_rows = rows_times c l r some L.count

  -- the slice has the room that it had
  pub listing_room : rows c old ≡ rows c out
  unfolding rows
  listing_room = ap (λ (v : ℕ). v / c) (sym L.same)

  -- there was room for fewer
  pub listing_short : rows c out < r → ltb (rows c old) (rows c l) ≡ true
  listing_short h = lt-ltb (rows c old) (rows c l) (omega (arith, h, listing_room, listing_rows))

  -- there was room for all
  pub listing_fits : r ≤ rows c out → ltb (rows c old) (rows c l) ≡ false
  listing_fits h = le-ltb (rows c old) (rows c l) (omega (arith, h, listing_room, listing_rows))

  pub listing_front : r ≤ rows c out → out ≡ l ++ drop (length l) old
  listing_front h = L.front (omega (arith, L.count, L.same, room_fits c out r h))
