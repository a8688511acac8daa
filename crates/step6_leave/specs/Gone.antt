-- The rows while one position i leaves the group k, store by store. p is the position before it there, and d the distance to the next.
use Rattle.std.specs.Prelude.{ℕ, ◌+◌, ◌≤◌, ◌<◌, ◌≡◌, cond, List, [], ◌∷◌, ltb}
use Rattle.words.specs.Reads.{at}
use Rattle.slots.specs.Slots.{put, put_some}
use Rattle.step1_rows.specs.Rows.{row, put_at, Long, Only, PREV, DIST, HEAD, AFTER, QUE, PART, REST, MANY}
use Rattle.step3_lists.specs.Filed.{Heads, Keeps}
use Rattle.step6_leave.specs.Links.{joined, bridged, put_ahead}

-- what a move asks of the links of i: places of a row, and distances up to 1,000
pub record Leavable (a : List (List ℕ)) (k i : ℕ) : Type 0 where
  pub long : Long a
  pub heads : Heads a
  pub named : (1 ≤ k) × (k ≤ 1000)
  pub low : 1 ≤ i
  pub back : at (row a PREV) i < i
  pub ahead : i + at (row a DIST) i ≤ 1000
  pub over : 1 ≤ at (row a PREV) i → at (row a DIST) (at (row a PREV) i) + at (row a DIST) i ≤ 1000

-- the least positions left: of the group k the one after i, if none is before i
unfoldable pub rest_after : List ℕ → ℕ → ℕ → ℕ → ℕ → List ℕ
rest_after rest k i p d = cond (ltb 0 p) rest (put rest k (joined i d))

-- what is before i got the distance to what is after it, or what is after it is the least left
pub record Closed (w : ℕ) (a b : List (List ℕ)) (k i p d : ℕ) : Type 0 where
  pub long : Long b
  pub waits : Keeps w a b p (joined (at (row a DIST) p) d)
  pub dist : row b DIST ≡ put_some (row a DIST) p (joined (at (row a DIST) p) d)
  pub rest : row b REST ≡ rest_after (row a REST) k i p d
  pub only : Only (REST ∷ DIST ∷ HEAD ∷ AFTER ∷ []) a b

-- i has no distance, and what is after it got what is before it
pub record Detached (a b : List (List ℕ)) (i p d : ℕ) : Type 0 where
  pub long : Long b
  pub dist : row b DIST ≡ put (row a DIST) i 0
  pub prev : row b PREV ≡ put_ahead (row a PREV) i d p
  pub only : Only (PREV ∷ DIST ∷ []) a b

-- i is out of the links of its group, in the step from width w
pub record Gone (w : ℕ) (a b : List (List ℕ)) (k i : ℕ) : Type 0 where
  pub long : Long b
  pub waits : Keeps w a b (at (row a PREV) i) (joined (at (row a DIST) (at (row a PREV) i)) (at (row a DIST) i))
  pub dist : row b DIST ≡ put (bridged (row a DIST) (row a PREV) i) i 0
  pub prev : row b PREV ≡ put_ahead (row a PREV) i (at (row a DIST) i) (at (row a PREV) i)
  pub rest : row b REST ≡ rest_after (row a REST) k i (at (row a PREV) i) (at (row a DIST) i)
  pub only : Only (PREV ∷ REST ∷ DIST ∷ HEAD ∷ AFTER ∷ []) a b

-- i, of the group k, begins part number h
unfoldable pub begun_at : List (List ℕ) → ℕ → ℕ → ℕ → List (List ℕ)
begun_at a h k i = put_at (put_at (put_at (put_at a QUE h i) PART k i) MANY i 1) PREV i 0

-- i, of the group k, counts in the part of k, and stands behind t
unfoldable pub counted_at : List (List ℕ) → ℕ → ℕ → ℕ → List (List ℕ)
counted_at a k t i = put_at (put_at a MANY (at (row a PART) k) (at (row a MANY) (at (row a PART) k) + 1)) PREV i t

-- what joining a part asks
pub record Joinable (a : List (List ℕ)) (k t i : ℕ) : Type 0 where
  pub long : Long a
  pub heads : Heads a
  pub named : (1 ≤ k) × (k ≤ 1000)
  pub low : 1 ≤ t
  pub behind : t < i
  pub high : i ≤ 1000
  pub part : (1 ≤ at (row a PART) k) × (at (row a PART) k ≤ 1000)
  pub many : at (row a MANY) (at (row a PART) k) < 65535
