-- The links after one position has left its group for the end of a part, or to begin one. Links are those of a list c of codes: positions
-- with one code are one group.
use Rattle.std.specs.Prelude.{ℕ, zero, suc, ◌+◌, ◌-◌, ◌≤◌, ◌<◌, ◌≡◌, ◌≢◌, List, length}
use Rattle.words.specs.Reads.{at}
use Rattle.slots.specs.Slots.{put, put_some}
use Rattle.step6_leave.specs.Links.{bridged, put_ahead}

-- the distances once i stands behind t
unfoldable pub dist_after : List ℕ → List ℕ → ℕ → ℕ → List ℕ
dist_after dist prev i t = put_some (put (bridged dist prev i) i 0) t (i - t)

-- the positions before, once i stands behind t
unfoldable pub prev_after : List ℕ → List ℕ → ℕ → ℕ → List ℕ
prev_after dist prev i t = put (put_ahead prev i (at dist i) (at prev i)) i t

-- i may go to the group of code x: every position of x lies before i, and t is the last of them, 0 if there is none
pub record Place (c : List ℕ) (i x t : ℕ) : Type 0 where
  pub low : 1 ≤ i
  pub high : i ≤ length c
  pub later : (j : ℕ) → 1 ≤ j → j ≤ length c → at c j ≡ x → j < i
  pub behind : t < i
  pub same : 1 ≤ t → at c t ≡ x
  pub free : (j : ℕ) → t < j → j < i → at c j ≢ x

-- the codes after the first q positions of the queue Q have moved, where u has the new names: one above 1,000 for a position that moved
unfoldable pub codes : List ℕ → List ℕ → List ℕ → ℕ → List ℕ
codes t u Q zero = t
codes t u Q (suc q) = put (codes t u Q q) (at Q (suc q)) (1000 + at u (at Q (suc q)))

-- one of the first q places of Q holds j
abbrev pub Past : List ℕ → ℕ → ℕ → Type 0
Past Q q j = (r : ℕ) × (1 ≤ r) × (r ≤ q) × (at Q r ≡ j)
