-- The starts of a period p: the places that have the distance p, in an array of the distances of the positions at width p.
use Rattle.std.specs.Prelude.{ℕ, ◌+◌, ◌≤◌, ◌<◌, ◌≡◌, List, length}
use Rattle.words.specs.Reads.{at}
use Rattle.words.specs.Groups.{table, gap}

-- a start has a place p after it
pub record Near (p : ℕ) (dist : List ℕ) : Type 0 where
  pub some : 1 ≤ p
  pub long : length dist ≡ 1000
  pub inside : (i : ℕ) → 1 ≤ i → i ≤ 1000 → at dist i ≡ p → i + p ≤ 1000

-- the distances are those of the read x at width p
pub record Gapped (x : List ℕ) (p : ℕ) (dist : List ℕ) : Type 0 where
  pub few : length x ≤ 1000
  pub held : (i : ℕ) → 1 ≤ i → i ≤ length x → at dist i ≡ gap (table x p) i
  pub beyond : (i : ℕ) → length x < i → i ≤ 1000 → at dist i ≡ 0
