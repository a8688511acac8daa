-- Rows of c numbers, and one of them, as the code cuts it out. Assumes nothing.
use Prim.Native.Nat.{ℕ, ◌+◌, ◌-◌, ◌*◌, ◌≤◌}
use mathlib.Core.Path.{◌≡◌, ap}
use mathlib.Core.List.{List}
use native.Mathlib.Omega.{arith}
use native.Mathlib.Nat.{div-le_self}
use lib.ListN.{length, take, drop}
use Rattle.words.specs.Rows.{rows, row, part}

module _ (c : ℕ) (l : List ℕ) where
  pub rows_few : rows c l ≤ length l
  unfolding rows
  rows_few = div-le_self (length l) c

  pub row_cut : (k : ℕ) → part c l k (k + 1) ≡ row c l k
  unfolding part row
  row_cut k = let e : c * (k + 1) - c * k ≡ c = omega arith in ap (λ (v : ℕ). take v (drop (c * k) l)) e
