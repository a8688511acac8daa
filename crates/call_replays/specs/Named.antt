-- The groups of width 1 of a read x, named from the left: what the work rooms hold after the first i positions.
use Rattle.std.specs.Prelude.{ℕ, ◌≤◌, ◌≡◌, cond, List, length, ltb}
use Rattle.words.specs.Reads.{at}
use Rattle.words.specs.Groups.{table}
use Rattle.read_letters.specs.Seen.{Seen}

-- the name of i: that of l, or its own if l is 0
unfoldable pub name_after : List ℕ → ℕ → ℕ → ℕ
name_after name l i = cond (ltb 0 l) (at name l) i

-- the first i positions have their names, and each letter its last position
pub record Named (x name seen : List ℕ) (i : ℕ) : Type 0 where
  pub long : length name ≡ 1000
  pub made : (j : ℕ) → 1 ≤ j → j ≤ i → at name j ≡ at (table x 1) j
  pub met : Seen x i seen
