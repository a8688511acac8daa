-- The rows part of the way: after q of the m places of the queue. t is the table of the old groups, and S the positions that leave one; a position
-- that has moved has a code of its part, and any other the name of its old group.
use Rattle.std.specs.Prelude.{ℕ, suc, ◌≤◌, ◌<◌, ◌≡◌, ◌≢◌, List, length}
use Rattle.words.specs.Range.{gather}
use Rattle.words.specs.Reads.{at}
use Rattle.words.specs.Groups.{gap}
use Rattle.slots.specs.Slots.{view}
use Rattle.step1_rows.specs.Rows.{row, Long, NAME, PREV, DIST, QUE, REST}
use Rattle.step3_lists.specs.Waits.{WaitingFor}
use Rattle.refine.specs.Refine.{next_of}
use Rattle.refine.specs.Links.{Linked}
use Rattle.refine.specs.Phases.{Bare, Kept}
use Rattle.refine.specs.Leaving.{leaver, leaving}
use Rattle.step7_moves.specs.Relink.{codes}
use Rattle.step7_moves.specs.Parted.{Split, PartedTo}
use Rattle.step7_moves.specs.Moves.{Movable}

-- j is the least position of code k; 0 if none has it
pub record Lead (c : List ℕ) (k j : ℕ) : Type 0 where
  pub high : j ≤ length c
  pub same : 1 ≤ j → at c j ≡ k
  pub free : (i : ℕ) → 1 ≤ i → i ≤ length c → (1 ≤ j → i < j) → at c i ≢ k

-- the rows a, from o, after the first s places of S: h parts and g groups were met, the queue beyond is as it was, and who waits does so for the distance
-- at the next width
pub record MovedTo (t S : List ℕ) (n w s h g : ℕ) (o a : List (List ℕ)) : Type 0 where
  pub long : Long a
  pub names : row a NAME ≡ row o NAME
  pub waits : WaitingFor (suc w) (gap (next_of t S)) a
  pub links : Linked (codes t (next_of t S) S s) (row a DIST) (row a PREV)
  pub prev_beyond : Bare n (row a PREV)
  pub dist_beyond : Kept n (row o DIST) (row a DIST)
  pub parted : PartedTo t S s h g a
  pub ahead : (r : ℕ) → s < r → at (row a QUE) r ≡ at (row o QUE) r
  pub rests : (k : ℕ) → Split t S s k → Lead (codes t (next_of t S) S s) k (at (row a REST) k)

-- how many of the first q places of a queue leave a group
abbrev pub left_by : List ℕ → List ℕ → ℕ → ℕ
left_by t Q q = length (gather (leaver t Q) q 1)

-- the rows a, from o, after the first q places of the queue
pub record Moving (n m w : ℕ) (o a : List (List ℕ)) (q h g : ℕ) : Type 0 where
  pub done : q ≤ m
  pub moved : MovedTo (view n (row o NAME)) (leaving (view n (row o NAME)) (view m (row o QUE))) n w (left_by (view n (row o NAME)) (view m (row o QUE)) q) h g o a

-- the same, where i is the next position of the queue
pub record Turn (n m w q : ℕ) (o a : List (List ℕ)) (i h g : ℕ) : Type 0 where
  pub start : Movable n m w o
  pub more : q < m
  pub here : i ≡ at (row a QUE) (suc q)
  pub moving : Moving n m w o a q h g
