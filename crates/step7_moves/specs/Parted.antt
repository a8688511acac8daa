-- What the rows hold of the parts after the first s places of a queue S have moved, one after another. t is the table of the old groups, and
-- `next_of t S` the new one: each of its groups that moves is a part, named by its least position, which comes first.
use Rattle.std.specs.Prelude.{ℕ, suc, ◌+◌, ◌-◌, ◌≤◌, ◌<◌, ◌≡◌, ◌≢◌, List, length, eqb}
use Rattle.words.specs.Range.{count}
use Rattle.words.specs.Reads.{at}
use Rattle.words.specs.Groups.{size}
use Rattle.slots.specs.Slots.{put}
use Rattle.step1_rows.specs.Rows.{row, Long, NAME, SIZE, PREV, DIST, QUE, PART, TAIL, REST, MANY, TOUCHED}
use Rattle.refine.specs.Refine.{next_of}
use Rattle.refine.specs.Phases.{Bare}
use Rattle.step6_leave.specs.Gone.{rest_after}
use Rattle.step7_moves.specs.Relink.{Past, dist_after, prev_after}

-- position i of the old group k is the next to move, after s others
pub record Next (t S : List ℕ) (s i k : ℕ) : Type 0 where
  pub more : suc s ≤ length S
  pub is : at S (suc s) ≡ i
  pub of : at t i ≡ k

-- how many of the first s places hold a position that has the name k in a table
unfoldable pub reached : List ℕ → List ℕ → ℕ → ℕ → ℕ
reached t S s k = count (λ r. eqb (at t (at S r)) k) s 1

-- j stands at the last of the first s places that hold a position of the old group k; 0 if none does
pub record Tail (t S : List ℕ) (s k j : ℕ) : Type 0 where
  pub place : ℕ
  pub within : place ≤ s
  pub free : (r : ℕ) → place < r → r ≤ s → at t (at S r) ≢ k
  pub none : place ≡ 0 → j ≡ 0
  pub some : 1 ≤ place → (at S place ≡ j) × (at t j ≡ k)

-- one of the first s places holds c, which names its part
pub record Begun (t S : List ℕ) (s c : ℕ) : Type 0 where
  pub past : Past S s c
  pub named : at (next_of t S) c ≡ c

-- one of the first s places holds a position of the old group k
pub record Split (t S : List ℕ) (s k : ℕ) : Type 0 where
  pub who : ℕ
  pub past : Past S s who
  pub of : at t who ≡ k

-- the first h places of a row, no more than s, hold all names that P says
pub record Listing (P : ℕ → Type 0) (s h : ℕ) (l : List ℕ) : Type 0 where
  pub few : h ≤ s
  pub some : (j : ℕ) → 1 ≤ j → j ≤ h → P (at l j)
  pub all : (c : ℕ) → P c → (j : ℕ) × (1 ≤ j) × (j ≤ h) × (at l j ≡ c)

-- each of the first h places of a row holds another name
pub record Unlike (h : ℕ) (l : List ℕ) : Type 0 where
  pub once : (j r : ℕ) → 1 ≤ j → j ≤ h → 1 ≤ r → r ≤ h → at l j ≡ at l r → j ≡ r

-- after the first s places: h parts and g old groups, of each old group its last position that moved, how many are left and the part that
-- its last one moved to, and of each part how many moved to it
pub record PartedTo (t S : List ℕ) (s h g : ℕ) (a : List (List ℕ)) : Type 0 where
  pub within : s ≤ length S
  pub tails : (k : ℕ) → 1 ≤ k → k ≤ 1000 → Tail t S s k (at (row a TAIL) k)
  pub left : (k : ℕ) → 1 ≤ k → k ≤ length t → at (row a SIZE) k + reached t S s k ≡ size t k
  pub beyond : Bare (length t) (row a SIZE)
  pub joined : (k : ℕ) → 1 ≤ k → k ≤ 1000 → 1 ≤ at (row a TAIL) k → at (row a PART) k ≡ at (next_of t S) (at (row a TAIL) k)
  pub counted : (j : ℕ) → Past S s j → at (row a MANY) (at (next_of t S) j) ≡ reached (next_of t S) S s (at (next_of t S) j)
  pub parts : Listing (Begun t S s) s h (row a QUE)
  pub unlike : Unlike h (row a QUE)
  pub groups : Listing (Split t S s) s g (row a TOUCHED)

-- the rows b, from a, once i has left the group k and stands behind j, 0 for none; `rest` is what REST was, and the other lists are what the parts take
pub record Stepped (a b : List (List ℕ)) (k i j : ℕ) (rest part many que touched : List ℕ) : Type 0 where
  pub long : Long b
  pub names : row b NAME ≡ row a NAME
  pub dist : row b DIST ≡ dist_after (row a DIST) (row a PREV) i j
  pub prev : row b PREV ≡ prev_after (row a DIST) (row a PREV) i j
  pub rests : row b REST ≡ rest_after rest k i (at (row a PREV) i) (at (row a DIST) i)
  pub tails : row b TAIL ≡ put (row a TAIL) k i
  pub sizes : row b SIZE ≡ put (row a SIZE) k (at (row a SIZE) k - 1)
  pub parts : row b PART ≡ part
  pub counts : row b MANY ≡ many
  pub queue : row b QUE ≡ que
  pub groups : row b TOUCHED ≡ touched
