-- A group is named by a walk along the distances. u is the table whose group it is, and h its least position.
use Rattle.std.specs.Prelude.{ℕ, ◌≤◌, ◌≡◌, ◌≢◌, List, [], ◌∷◌, length}
use Rattle.words.specs.Reads.{at}
use Rattle.words.specs.Groups.{Least, gap}
use Rattle.step1_rows.specs.Rows.{row, Long, Only, NAME, DIST}
use Rattle.refine.specs.Phases.{Kept, Gaps}

-- what the walk asks: dist holds the distances of u, a table of least names, in which h names a group
pub record Walkable (u dist : List ℕ) (h : ℕ) : Type 0 where
  pub few : length u ≤ 1000
  pub least : Least u
  pub gaps : Gaps u dist
  pub low : 1 ≤ h
  pub high : h ≤ length u
  pub own : at u h ≡ h

-- the positions up to j of the group h hold h, and those of other groups what they held
pub record Swept (u old new : List ℕ) (h j : ℕ) : Type 0 where
  pub long : length new ≡ 1000
  pub named : (i : ℕ) → 1 ≤ i → i ≤ j → at u i ≡ h → at new i ≡ h
  pub other : (i : ℕ) → 1 ≤ i → i ≤ length u → at u i ≢ h → at new i ≡ at old i
  pub beyond : Kept (length u) old new

-- the walk has come to j, and d is the distance ahead
pub record Sweeping (u old new : List ℕ) (h j d : ℕ) : Type 0 where
  pub swept : Swept u old new h j
  pub low : 1 ≤ j
  pub high : j ≤ length u
  pub of : at u j ≡ h
  pub ahead : d ≡ gap u j

-- the same of the rows, which were a
pub record SweepingRows (a b : List (List ℕ)) (h j d : ℕ) : Type 0 where
  pub long : Long b
  pub only : Only (NAME ∷ []) a b
  pub each : (u : List ℕ) → Walkable u (row a DIST) h → Sweeping u (row a NAME) (row b NAME) h j d
