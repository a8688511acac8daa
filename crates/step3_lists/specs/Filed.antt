-- What the rows are after one position is filed, released, or changed.
use Rattle.std.specs.Prelude.{ℕ, suc, ◌+◌, ◌≤◌, ◌≡◌, ◌≢◌, cond, List, [], ◌∷◌, ltb}
use Rattle.words.specs.Reads.{at}
use Rattle.slots.specs.Slots.{put}
use Rattle.step1_rows.specs.Rows.{row, put_at, Long, Only, DIST, HEAD, AFTER}
use Rattle.step3_lists.specs.Lists.{Place, Lists}
use Rattle.step3_lists.specs.Waits.{WaitingFor}

-- the first place of each list is a place, or 0
abbrev pub Heads : List (List ℕ) → Type 0
Heads a = (d : ℕ) → Place d → at (row a HEAD) d ≤ 1000

-- each place that has a distance is on the list of it, and no other place on any
abbrev pub Listed : List (List ℕ) → Type 0
Listed a = Lists (row a DIST) (row a HEAD) (row a AFTER)

-- i comes first on the list of d
unfoldable pub filed_at : List (List ℕ) → ℕ → ℕ → List (List ℕ)
filed_at a i d = put_at (put_at a AFTER i (at (row a HEAD) d + 1)) HEAD d i

-- i leaves the list of w, for that of its distance if that is to come
unfoldable pub released_at : List (List ℕ) → ℕ → ℕ → List (List ℕ)
released_at a w i = cond (ltb w (at (row a DIST) i)) (filed_at (put_at a AFTER i 0) i (at (row a DIST) i)) (put_at a AFTER i 0)

-- who waits in the rows a after width w waits in b, if d, which i may be filed under, is not above its last distance
abbrev pub Keeps : ℕ → List (List ℕ) → List (List ℕ) → ℕ → ℕ → Type 0
Keeps w a b i d = (last : ℕ → ℕ) → WaitingFor (suc w) last a → (1 ≤ i → 1 ≤ last i → d ≤ last i) → WaitingFor (suc w) last b

-- the rows b are a, but that i has the distance d, in the step from width w
pub record Changed (w : ℕ) (a b : List (List ℕ)) (i d : ℕ) : Type 0 where
  pub long : Long b
  pub dist : row b DIST ≡ put (row a DIST) i d
  pub only : Only (DIST ∷ HEAD ∷ AFTER ∷ []) a b
  pub waits : Keeps w a b i d

-- g has the places of f, and those at which an array has the number p
pub record Marked (a : List ℕ) (p : ℕ) (f g : List ℕ) : Type 0 where
  pub hit : (i : ℕ) → 1 ≤ i → i ≤ 1000 → at a i ≡ p → at g i ≡ 1
  pub miss : (i : ℕ) → 1 ≤ i → i ≤ 1000 → at a i ≢ p → at g i ≡ at f i
