-- Rows of one array, with places from 1: `at` of words reads a place of a row.
use Rattle.std.specs.Prelude.{ℕ, ◌<◌, ◌≡◌, Bool, true, false, cond, List, [], ◌∷◌, length, get_or, set, eqb}
use Rattle.slots.specs.Slots.{put}

-- ---- the rows by name, as the source has them

abbrev pub NAME : ℕ
NAME = 0

abbrev pub SIZE : ℕ
SIZE = 1

abbrev pub PREV : ℕ
PREV = 2

abbrev pub DIST : ℕ
DIST = 3

abbrev pub HEAD : ℕ
HEAD = 4

abbrev pub AFTER : ℕ
AFTER = 5

abbrev pub QUE : ℕ
QUE = 6

abbrev pub PART : ℕ
PART = 7

abbrev pub TAIL : ℕ
TAIL = 8

abbrev pub REST : ℕ
REST = 9

abbrev pub MANY : ℕ
MANY = 10

abbrev pub TOUCHED : ℕ
TOUCHED = 11

-- ---- reading and writing

unfoldable pub row : List (List ℕ) → ℕ → List ℕ
row a r = get_or a r []

-- v stored at place i of row r
unfoldable pub put_at : List (List ℕ) → ℕ → ℕ → ℕ → List (List ℕ)
put_at a r i v = set a r (put (row a r) i v)

-- there are 12 rows of 1,000 places
pub record Long (a : List (List ℕ)) : Type 0 where
  pub rows : length a ≡ 12
  pub each : (r : ℕ) → r < 12 → length (row a r) ≡ 1000

-- ---- rows that stay

-- is r one of the rows ws?
unfoldable pub among : List ℕ → ℕ → Bool
among [] r = false
among (w ∷ ws) r = cond (eqb w r) true (among ws r)

-- is each of the rows ws one of vs?
unfoldable pub inside : List ℕ → List ℕ → Bool
inside [] vs = true
inside (w ∷ ws) vs = cond (among vs w) (inside ws vs) false

-- the array b is a, but for the rows ws
unfoldable pub Only : List ℕ → List (List ℕ) → List (List ℕ) → Type 0
Only ws a b = (r : ℕ) → among ws r ≡ false → row b r ≡ row a r
