-- The links between the positions of a group, as functions of the table: the distance to the next (`gap` of words) and the position before.
use Rattle.std.specs.Prelude.{ℕ, ◌-◌, ◌≤◌, ◌≡◌, List, length, eqb}
use Rattle.words.specs.Range.{first}
use Rattle.words.specs.Reads.{at}
use Rattle.words.specs.Groups.{gap}

-- the position before i in its group; 0 if there is none
unfoldable pub back : List ℕ → ℕ → ℕ
back t i = i - first (λ m. eqb (at t (i - m)) (at t i)) (i - 1) 1

-- dist and prev hold these of every position of t
pub record Linked (t dist prev : List ℕ) : Type 0 where
  pub next : (i : ℕ) → 1 ≤ i → i ≤ length t → at dist i ≡ gap t i
  pub last : (i : ℕ) → 1 ≤ i → i ≤ length t → at prev i ≡ back t i
