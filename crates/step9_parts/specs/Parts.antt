-- The turns of the parts that moved, over the rows: what one asks and does, and what all of them leave. t is the table of the old groups, S the
-- positions that left one, and `next_of t S` the table afterwards.
use Rattle.std.specs.Prelude.{ℕ, ◌≤◌, ◌≡◌, List, [], ◌∷◌, length}
use Rattle.words.specs.Reads.{at}
use Rattle.words.specs.Groups.{parts_small}
use Rattle.slots.specs.Slots.{put_some, view}
use Rattle.step1_rows.specs.Rows.{row, put_at, Long, Only, NAME, SIZE, DIST, QUE, REST, MANY}
use Rattle.step2_bits.specs.Sets.{flags}
use Rattle.refine.specs.Refine.{next_of}
use Rattle.refine.specs.Phases.{Bare, Sized, Flagged}
use Rattle.step8_groups.specs.Sweep.{Walkable, Swept}
use Rattle.step8_groups.specs.Groups.{Regrouped}
use Rattle.step9_parts.specs.Turns.{winner, loser, TurnedTo}

-- ---- one turn

-- the rows once the part c of the group k is weighed: the better one is the best of k from now on
unfoldable pub weighed : List (List ℕ) → ℕ → ℕ → List (List ℕ)
weighed a k c = put_at a REST k (winner (row a MANY) (at (row a REST) k) c)

-- the flags f after it: whichever of the two is not the best has one
unfoldable pub with_loser : List (List ℕ) → List ℕ → ℕ → ℕ → List ℕ
with_loser a f k c = put_some f (loser (row a MANY) (at (row a REST) k) c) 1

-- what the turn of c asks: it, its old group and the best part of that are places, and c names a group along the distances
pub record Due (a : List (List ℕ)) (c : ℕ) : Type 0 where
  pub long : Long a
  pub low : 1 ≤ c
  pub high : c ≤ 1000
  pub group_low : 1 ≤ at (row a NAME) c
  pub group_high : at (row a NAME) c ≤ 1000
  pub best_high : at (row a REST) (at (row a NAME) c) ≤ 1000
  pub walk : (u : List ℕ) × Walkable u (row a DIST) c

-- what it does: c is weighed, gets its size, and its positions get its name
pub record Done (a b : List (List ℕ)) (f g : List ℕ) (c : ℕ) : Type 0 where
  pub long : Long b
  pub rows : Only (NAME ∷ []) (put_at (weighed a (at (row a NAME) c) c) SIZE c (at (row a MANY) c)) b
  pub names : (u : List ℕ) → Walkable u (row a DIST) c → Swept u (row a NAME) (row b NAME) c (length u)
  pub flags_are : g ≡ with_loser a f (at (row a NAME) c) c

-- ---- all turns

-- the rows b and the small groups w after q of them
pub record Turning (n h q : ℕ) (a b : List (List ℕ)) (w : List ℕ) : Type 0 where
  pub long : Long b
  pub only : Only (NAME ∷ SIZE ∷ REST ∷ []) a b
  pub each : (t S : List ℕ) → Regrouped t S n h a → TurnedTo t S (row a QUE) h q b (flags w)

-- and after all: the names and the sizes of the new groups, of which all but the big parts are small
pub record Turned (t S : List ℕ) (n : ℕ) (a b : List (List ℕ)) (w : List ℕ) : Type 0 where
  pub long : Long b
  pub only : Only (NAME ∷ SIZE ∷ REST ∷ []) a b
  pub names : view n (row b NAME) ≡ next_of t S
  pub beyond : Bare n (row b NAME)
  pub sized : Sized (next_of t S) (row b SIZE)
  pub flags_are : Flagged (parts_small t (next_of t S)) (flags w)
