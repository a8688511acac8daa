-- The turns of the groups that a position moved out of: what they ask of the rows, and what they leave. t is the table of the old groups, S the
-- positions that left one, and `next_of t S` the table afterwards.
use Rattle.std.specs.Prelude.{ℕ, ◌≤◌, ◌≡◌, List}
use Rattle.words.specs.Reads.{at}
use Rattle.words.specs.Groups.{size}
use Rattle.slots.specs.Slots.{view}
use Rattle.step1_rows.specs.Rows.{row, Long, NAME, SIZE, DIST, QUE, TAIL, REST, MANY, TOUCHED}
use Rattle.refine.specs.Refine.{next_of, stayer}
use Rattle.refine.specs.Phases.{Bare, Clean, Gaps, Stayed, Tails, Renewed}
use Rattle.refine.specs.Leaving.{Begins, Splits, PartsIn, GroupsIn, Known}

-- the rows before the turns of g groups; h parts wait for theirs
pub record Turnable (t S : List ℕ) (n h g : ℕ) (a : List (List ℕ)) : Type 0 where
  pub known : Known t S n
  pub long : Long a
  pub names : view n (row a NAME) ≡ t
  pub beyond : Bare n (row a NAME)
  pub gaps : Gaps (next_of t S) (row a DIST)
  pub sizes : Stayed t S (row a SIZE)
  pub many : (c : ℕ) → Begins t S c → at (row a MANY) c ≡ size (next_of t S) c
  pub rests : (k : ℕ) → Splits t S k → at (row a REST) k ≡ stayer t S k
  pub tails : Tails t S (row a TAIL)
  pub parts : PartsIn t S h (row a QUE)
  pub groups : GroupsIn t S g (row a TOUCHED)

-- the rows after them: what is left of each group has its name and its size, and is the best of the group's parts so far
pub record Regrouped (t S : List ℕ) (n h : ℕ) (a : List (List ℕ)) : Type 0 where
  pub known : Known t S n
  pub long : Long a
  pub names : Renewed t S (row a NAME)
  pub gaps : Gaps (next_of t S) (row a DIST)
  pub sizes : (s : ℕ) → 1 ≤ s → s ≤ n → (Begins t S s → ⊥) → at (row a SIZE) s ≡ size (next_of t S) s
  pub beyond : Bare n (row a SIZE)
  pub many : (c : ℕ) → Begins t S c → at (row a MANY) c ≡ size (next_of t S) c
  pub left : (k : ℕ) → Splits t S k → 1 ≤ stayer t S k → at (row a MANY) (stayer t S k) ≡ size (next_of t S) (stayer t S k)
  pub rests : (k : ℕ) → Splits t S k → at (row a REST) k ≡ stayer t S k
  pub tails : Clean (row a TAIL)
  pub parts : PartsIn t S h (row a QUE)
