-- The pass of moves: what it asks of the rows, and what it leaves. t is the table of the old groups, S the positions that leave one.
use Rattle.std.specs.Prelude.{ℕ, suc, ◌≤◌, ◌≡◌, List}
use Rattle.words.specs.Reads.{at}
use Rattle.words.specs.Groups.{Least, size}
use Rattle.slots.specs.Slots.{view}
use Rattle.step1_rows.specs.Rows.{row, Long, NAME, SIZE, PREV, DIST, QUE, TAIL, REST, MANY, TOUCHED}
use Rattle.step3_lists.specs.Waits.{Waiting}
use Rattle.refine.specs.Refine.{Lined, next_of, stayer}
use Rattle.refine.specs.Links.{Linked}
use Rattle.refine.specs.Phases.{Bare, Kept, Clean, Sized, Stayed, Tails}
use Rattle.refine.specs.Leaving.{Begins, Splits, PartsIn, GroupsIn}

-- the rows before it, in the step from width w: a queue of m positions of the n, and the lists begin after w
pub record Movable (n m w : ℕ) (a : List (List ℕ)) : Type 0 where
  pub few : n ≤ 1000
  pub queued : m ≤ n
  pub long : Long a
  pub name_beyond : Bare n (row a NAME)
  pub prev_beyond : Bare n (row a PREV)
  pub dist_beyond : Bare n (row a DIST)
  pub least : Least (view n (row a NAME))
  pub lined : Lined (view n (row a NAME)) (view m (row a QUE))
  pub sized : Sized (view n (row a NAME)) (row a SIZE)
  pub links : Linked (view n (row a NAME)) (row a DIST) (row a PREV)
  pub waits : Waiting (suc w) a
  pub tails : Clean (row a TAIL)

-- the rows b after it, where h parts and g groups were met
pub record Moved (w : ℕ) (t S : List ℕ) (n : ℕ) (a b : List (List ℕ)) (h g : ℕ) : Type 0 where
  pub long : Long b
  pub names : row b NAME ≡ row a NAME
  pub links : Linked (next_of t S) (row b DIST) (row b PREV)
  pub prev_beyond : Bare n (row b PREV)
  pub dist_beyond : Kept n (row a DIST) (row b DIST)
  pub waits : Waiting (suc w) b
  pub sizes : Stayed t S (row b SIZE)
  pub many : (c : ℕ) → Begins t S c → at (row b MANY) c ≡ size (next_of t S) c
  pub rests : (k : ℕ) → Splits t S k → at (row b REST) k ≡ stayer t S k
  pub tails : Tails t S (row b TAIL)
  pub parts : PartsIn t S h (row b QUE)
  pub groups : GroupsIn t S g (row b TOUCHED)
