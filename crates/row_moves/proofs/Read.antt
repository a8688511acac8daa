-- The name and the position of a move are numbers of the log. Assumes nothing.
use Prim.Native.Nat.{ℕ, ◌+◌, ◌*◌}
use mathlib.Core.List.{List}
use lib.ListN.{get_or}
use Rattle.words.specs.Rows.{cell}
use Rattle.words.specs.Moves.{move_size, name_of, place_of}

-- what holds of all numbers of the log holds of them
module _ (P : ℕ → Type 0) (l : List ℕ) (all : (i : ℕ) → P (get_or l i 0)) (k : ℕ) where
  pub name-among : P (name_of l k)
  unfolding name_of cell
  name-among = all (move_size * k + 1)

  pub place_among : P (place_of l k)
  unfolding place_of cell
  place_among = all (move_size * k + 2)
