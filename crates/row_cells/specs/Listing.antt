-- A lent slice while rows of c numbers are written to its front.
use Rattle.std.specs.Prelude.{ℕ, ◌*◌, ◌≤◌, ◌≡◌, List, ◌++◌, length, drop}

-- more rows than there can be, and few enough that every number of them can be counted
abbrev pub many : ℕ
many = 1000000

-- k rows so far, l, stand at the front of the slice, and the rest is as it was; where they found no room, only its length is known
pub record Listing {X : Type 0} (c : ℕ) (old l : List X) (k : ℕ) (out : List X) : Type 0 where
  pub same : length out ≡ length old
  pub count : length l ≡ c * k
  pub front : length l ≤ length old → out ≡ l ++ drop (length l) old

-- the rows m come after the k rows that were there, which makes r
abbrev pub Adds : {X : Type 0} → ℕ → ℕ → ℕ → List X → List X → List X → Type 0
Adds {X} c k r m out out' = (old l : List X) → Listing c old l k out → Listing c old (l ++ m) r out'
