-- Who leaves a group, and what that makes of the groups. t is the table of the old groups and S a queue of positions that move; a position that is
-- alone in its group need not move, since its group stays as it is.
use Rattle.std.specs.Prelude.{ℕ, ◌≤◌, ◌≡◌, Bool, true, cond, List, [], ◌∷◌, length, ltb}
use Rattle.words.specs.Range.{gather}
use Rattle.words.specs.Reads.{at}
use Rattle.words.specs.Groups.{Least, size}
use Rattle.refine.specs.Refine.{has, Lined, next_of}

-- is position i in a group with another?
unfoldable pub paired : List ℕ → ℕ → Bool
paired t i = ltb 1 (size t (at t i))

-- the position at place q of a queue, if it is
unfoldable pub leaver : List ℕ → List ℕ → ℕ → List ℕ
leaver t Q q = cond (paired t (at Q q)) (at Q q ∷ []) []

-- the positions of a queue that leave a group
unfoldable pub leaving : List ℕ → List ℕ → List ℕ
leaving t Q = gather (leaver t Q) (length Q) 1

-- c moves, and names its part
pub record Begins (t S : List ℕ) (c : ℕ) : Type 0 where
  pub moves : has S c ≡ true
  pub named : at (next_of t S) c ≡ c

-- the first h places of a row hold the names of all parts that move, each once
pub record PartsIn (t S : List ℕ) (h : ℕ) (que : List ℕ) : Type 0 where
  pub few : h ≤ 1000
  pub part : (j : ℕ) → 1 ≤ j → j ≤ h → Begins t S (at que j)
  pub once : (j r : ℕ) → 1 ≤ j → j ≤ h → 1 ≤ r → r ≤ h → at que j ≡ at que r → j ≡ r
  pub all : (c : ℕ) → Begins t S c → (j : ℕ) × (1 ≤ j) × (j ≤ h) × (at que j ≡ c)

-- a position moves out of the group k
pub record Splits (t S : List ℕ) (k : ℕ) : Type 0 where
  pub who : ℕ
  pub moves : has S who ≡ true
  pub of : at t who ≡ k

-- the first g places of a row hold the names of all groups that a position moves out of
pub record GroupsIn (t S : List ℕ) (g : ℕ) (touched : List ℕ) : Type 0 where
  pub few : g ≤ 1000
  pub group : (j : ℕ) → 1 ≤ j → j ≤ g → Splits t S (at touched j)
  pub all : (k : ℕ) → Splits t S k → (j : ℕ) × (1 ≤ j) × (j ≤ g) × (at touched j ≡ k)

-- the table t and a queue S of it
pub record Known (t S : List ℕ) (n : ℕ) : Type 0 where
  pub few : n ≤ 1000
  pub long : length t ≡ n
  pub least : Least t
  pub lined : Lined t S
