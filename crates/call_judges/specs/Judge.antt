-- Judging a log entry by entry: the order of entries, the parts of `good`, and what is known once the first k entries are good, or all.
use Rattle.std.specs.Prelude.{ℕ, ◌-◌, ◌≤◌, ◌<◌, ◌≡◌, ◌⊎◌, Bool, true, ◌&&◌, ◌||◌, not, List, length, eqb}
use Rattle.words.specs.Range.{every}
use Rattle.words.specs.Reads.{at}
use Rattle.words.specs.Rows.{rows}
use Rattle.words.specs.Moves.{top_of, move_size, width_of, name_of, place_of}
use Rattle.words.specs.Logs.{within, before, moved, good}

-- the width, the name and the position of entry k are what they may be
unfoldable pub in_range : ℕ → List ℕ → ℕ → Bool
in_range n l k = within 1 (top_of n - 1) (width_of l k) && within 1 n (name_of l k) && within 1 (n - 1) (place_of l k)

-- entry k comes strictly after the one before, if there is one
unfoldable pub follows : List ℕ → ℕ → Bool
follows l k = eqb k 0 || before l (k - 1) k

-- no entry before entry k moves its position at its width
unfoldable pub free : List ℕ → ℕ → Bool
free l k = every (λ h. not (moved l h k)) k 0

-- by width, then name, then position, entry h comes before entry k
abbrev pub Ordered : List ℕ → ℕ → ℕ → Type 0
Ordered l h k =
    (width_of l h < width_of l k)
    ⊎ ((width_of l h ≡ width_of l k) × ((name_of l h < name_of l k) ⊎ ((name_of l h ≡ name_of l k) × (place_of l h < place_of l k))))

-- the first k entries are good, and seen has the last width at which each position moved in them
pub record Seen (n : ℕ) (l : List ℕ) (k : ℕ) (seen : List ℕ) : Type 0 where
  pub long : length seen ≡ 1000
  pub fine : (h : ℕ) → h < k → good n l h ≡ true
  -- no width is above that of the newest entry
  pub newest : (h : ℕ) → h < k → width_of l h ≤ width_of l (k - 1)
  pub last : (h : ℕ) → h < k → width_of l h ≤ at seen (place_of l h)
  -- what is seen of a position comes from an entry
  pub source : (i : ℕ) → 1 ≤ i → i ≤ 1000 → 1 ≤ at seen i → (h : ℕ) × (h < k) × (place_of l h ≡ i) × (width_of l h ≡ at seen i)

-- a log for a read of n bytes, of which every whole entry is good
pub record Formed (n : ℕ) (l : List ℕ) : Type 0 where
  pub few : n ≤ 1000
  pub each : (k : ℕ) → k < rows move_size l → good n l k ≡ true
