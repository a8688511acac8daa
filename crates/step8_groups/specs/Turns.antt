-- The turn of one group that a position moves out of, and what holds after some turns. t is the table of the old groups, S the positions that leave
-- one, and `next_of t S` the table afterwards.
use Rattle.std.specs.Prelude.{ℕ, ◌≤◌, ◌<◌, ◌≡◌, ◌⊎◌, ◌≢◌, true, false, cond, List, [], ◌∷◌, length, ltb}
use Rattle.words.specs.Reads.{at}
use Rattle.words.specs.Groups.{size}
use Rattle.step1_rows.specs.Rows.{row, put_at, Long, Only, NAME, SIZE, DIST, TAIL, REST, MANY, TOUCHED}
use Rattle.refine.specs.Refine.{has, next_of, stayer, stayers}
use Rattle.refine.specs.Phases.{Bare}
use Rattle.refine.specs.Leaving.{Begins, Splits}
use Rattle.step8_groups.specs.Sweep.{Walkable, Swept}

-- ---- one turn

-- the rows a with the tail of k gone, and its size known as that of the part l and as that of the group l; 0 is none
unfoldable pub stored : List (List ℕ) → ℕ → ℕ → List (List ℕ)
stored a k l = let b = put_at a TAIL k 0 in cond (ltb 0 l) (put_at (put_at b MANY l (at (row a SIZE) k)) SIZE l (at (row a SIZE) k)) b

-- what the turn of the group k asks: it is a place, and what REST has for it is 0 or names a group along the distances
pub record Due (a : List (List ℕ)) (k : ℕ) : Type 0 where
  pub long : Long a
  pub low : 1 ≤ k
  pub high : k ≤ 1000
  pub rest_high : at (row a REST) k ≤ 1000
  pub walk : 1 ≤ at (row a REST) k → (u : List ℕ) × Walkable u (row a DIST) (at (row a REST) k)

-- what it does: the stores, and the positions of what is left get its name unless it has it
pub record Done (a b : List (List ℕ)) (k : ℕ) : Type 0 where
  pub long : Long b
  pub rows : Only (NAME ∷ []) (stored a k (at (row a REST) k)) b
  pub idle : (at (row a REST) k ≡ 0) ⊎ (at (row a REST) k ≡ k) → row b NAME ≡ row a NAME
  pub names : 1 ≤ at (row a REST) k → at (row a REST) k ≢ k
      → (u : List ℕ) → Walkable u (row a DIST) (at (row a REST) k) → Swept u (row a NAME) (row b NAME) (at (row a REST) k) (length u)

-- ---- all turns

-- one of h names in a row still waits after q turns
pub record Waits (que : List ℕ) (h q s : ℕ) : Type 0 where
  pub place : ℕ
  pub low : q < place
  pub high : place ≤ h
  pub is : at que place ≡ s

-- what stays of the group k has its size in both rows
pub record Weighed (t S : List ℕ) (k : ℕ) (sizes many : List ℕ) : Type 0 where
  pub held : at sizes (stayer t S k) ≡ stayers t S k
  pub part : at many (stayer t S k) ≡ stayers t S k

-- after the turns of the first q of g groups, which a names: theirs is done, and the rest is as it was
pub record TurnedTo (t S : List ℕ) (g q : ℕ) (a b : List (List ℕ)) : Type 0 where
  pub long : Long b
  pub only : Only (NAME ∷ SIZE ∷ TAIL ∷ MANY ∷ []) a b
  pub moved : (i : ℕ) → has S i ≡ true → at (row b NAME) i ≡ at t i
  pub kept : (i : ℕ) → 1 ≤ i → i ≤ length t → has S i ≡ false → (Waits (row a TOUCHED) g q (at t i) → has S (at t i) ≡ false) → at (row b NAME) i ≡ at (next_of t S) i
  pub no_names : Bare (length t) (row b NAME)
  pub weighed : (k : ℕ) → Splits t S k → (Waits (row a TOUCHED) g q k → ⊥) → 1 ≤ stayer t S k → Weighed t S k (row b SIZE) (row b MANY)
  pub sizes : (s : ℕ) → 1 ≤ s → s ≤ length t → (at t s ≡ s) ⊎ (stayer t S (at t s) ≢ s) → at (row b SIZE) s ≡ stayers t S s
  pub no_sizes : Bare (length t) (row b SIZE)
  pub many : (c : ℕ) → Begins t S c → at (row b MANY) c ≡ size (next_of t S) c
  pub cleared : (k : ℕ) → 1 ≤ k → k ≤ 1000 → (Waits (row a TOUCHED) g q k → ⊥) → at (row b TAIL) k ≡ 0
