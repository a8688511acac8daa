-- The bits of a number, counted from 0, the lowest.
use Rattle.std.specs.Prelude.{ℕ, ◌/◌, ◌%◌, ◌^◌, ◌<◌, ◌≡◌, ◌≢◌, Bool, eqb}

-- bit j of a number
unfoldable pub bit : ℕ → ℕ → ℕ
bit w j = w / 2 ^ j % 2

-- is it 1?
unfoldable pub has : ℕ → ℕ → Bool
has w j = eqb (bit w j) 1

-- w is was with v as bit j, in k bits
pub record Bit (k was w j v : ℕ) : Type 0 where
  pub fits : w < 2 ^ k
  pub hit : bit w j ≡ v
  pub miss : (i : ℕ) → i ≢ j → bit w i ≡ bit was i
