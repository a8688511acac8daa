-- One turn for each part that moved: what it stores, and what holds between two turns. t is the table of the old groups, S the positions that left
-- one, and que the names of the h parts that these make, in the order of their turns; many has the sizes of all parts.
use Rattle.std.specs.Prelude.{ℕ, ◌≤◌, ◌≡◌, ◌⊎◌, Bool, true, false, cond, List, length, ltb, eqb}
use Rattle.words.specs.Reads.{at}
use Rattle.words.specs.Groups.{size, big}
use Rattle.step1_rows.specs.Rows.{row, NAME, SIZE, REST}
use Rattle.refine.specs.Refine.{next_of}
use Rattle.refine.specs.Phases.{Bare}
use Rattle.refine.specs.Leaving.{Splits}
use Rattle.step8_groups.specs.Turns.{Waits}

-- ---- what a turn stores

-- is the part c, of y positions, ahead of b, of z: is it larger, or as large with the smaller name?
unfoldable pub better_of : ℕ → ℕ → ℕ → ℕ → Bool
better_of b z c y = cond (ltb z y) true (cond (ltb y z) false (ltb c b))

-- is the part c the best from now on, where b was; 0 is none?
unfoldable pub takes : List ℕ → ℕ → ℕ → Bool
takes many b c = cond (eqb b 0) true (better_of b (at many b) c (at many c))

-- the better one, which is the best from now on
unfoldable pub winner : List ℕ → ℕ → ℕ → ℕ
winner many b c = cond (takes many b c) c b

-- the other one, which is small; 0 if there is none
unfoldable pub loser : List ℕ → ℕ → ℕ → ℕ
loser many b c = cond (takes many b c) b c

-- ---- what holds between two turns

-- s names a part of the old group k
pub record PartOf (t S : List ℕ) (k s : ℕ) : Type 0 where
  pub low : 1 ≤ s
  pub high : s ≤ length t
  pub named : at (next_of t S) s ≡ s
  pub of : at t s ≡ k

-- such a part that had its turn, or never waited since it is what is left of k
abbrev pub Tried : List ℕ → List ℕ → List ℕ → ℕ → ℕ → ℕ → ℕ → Type 0
Tried t S que h q k s = PartOf t S k s × (Waits que h q s → ⊥)

-- the part named s of u is not smaller than the one named r, and if they tie its name is not the larger: `beats` of words as a type
abbrev pub Ahead : List ℕ → ℕ → ℕ → Type 0
Ahead u s r = (size u r ≤ size u s) × (size u r ≡ size u s → s ≤ r)

-- b is the best of the parts of k that were tried, 0 only if there is none, and the others have flags
pub record Leads (t S que : List ℕ) (h q : ℕ) (flag : List ℕ) (k b : ℕ) : Type 0 where
  pub is : 1 ≤ b → Tried t S que h q k b
  pub wins : (s : ℕ) → Tried t S que h q k s → (1 ≤ b) × Ahead (next_of t S) b s × ((s ≡ b) ⊎ (at flag s ≡ 1))

-- s names a part, and not the big one
pub record Lesser (t S : List ℕ) (s : ℕ) : Type 0 where
  pub high : s ≤ length t
  pub named : at (next_of t S) s ≡ s
  pub beaten : big t (next_of t S) s ≡ false

-- rest has the best so far of each group that a position moved out of, and only small parts have flags
pub record ChosenTo (t S que : List ℕ) (h q : ℕ) (rest flag : List ℕ) : Type 0 where
  pub best : (k : ℕ) → Splits t S k → Leads t S que h q flag k (at rest k)
  pub only : (s : ℕ) → 1 ≤ s → s ≤ 1000 → (at flag s ≡ 0) ⊎ ((at flag s ≡ 1) × Lesser t S s)

-- the rows a and the flags f: all but the parts that wait have their names and sizes, and these have their old names
pub record TurnedTo (t S que : List ℕ) (h q : ℕ) (a : List (List ℕ)) (f : List ℕ) : Type 0 where
  pub named : (i : ℕ) → 1 ≤ i → i ≤ length t → (Waits que h q (at (next_of t S) i) → ⊥) → at (row a NAME) i ≡ at (next_of t S) i
  pub waits : (s : ℕ) → Waits que h q s → at (row a NAME) s ≡ at t s
  pub no_names : Bare (length t) (row a NAME)
  pub sized : (s : ℕ) → 1 ≤ s → s ≤ length t → (Waits que h q s → ⊥) → at (row a SIZE) s ≡ size (next_of t S) s
  pub no_sizes : Bare (length t) (row a SIZE)
  pub chosen : ChosenTo t S que h q (row a REST) f
