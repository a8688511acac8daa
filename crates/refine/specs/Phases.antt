-- What the phases of a step hand to each other. t is the table before the step, Q the queue of positions that move, and `next_of t Q` the
-- table afterwards; each record says what one array holds, place by place.
use Rattle.std.specs.Prelude.{ℕ, ◌≤◌, ◌<◌, ◌≡◌, ◌⊎◌, ◌≢◌, true, false, List, length}
use Rattle.words.specs.Reads.{at}
use Rattle.words.specs.Groups.{size, gap}
use Rattle.refine.specs.Refine.{has, next_of, stayers}

-- nothing stands beyond the first n places of an array
abbrev pub Bare : ℕ → List ℕ → Type 0
Bare n a = (i : ℕ) → n < i → i ≤ 1000 → at a i ≡ 0

-- beyond the first n places an array b is as a was
abbrev pub Kept : ℕ → List ℕ → List ℕ → Type 0
Kept n a b = (i : ℕ) → n < i → i ≤ 1000 → at b i ≡ at a i

-- an array that holds nothing
pub record Clean (a : List ℕ) : Type 0 where
  pub long : length a ≡ 1000
  pub none : (i : ℕ) → 1 ≤ i → i ≤ 1000 → at a i ≡ 0

-- the distance of each position
pub record Gaps (t dist : List ℕ) : Type 0 where
  pub long : length dist ≡ 1000
  pub next : (i : ℕ) → 1 ≤ i → i ≤ length t → at dist i ≡ gap t i

-- the size of each group, at its name
pub record Sized (t sizes : List ℕ) : Type 0 where
  pub long : length sizes ≡ 1000
  pub held : (k : ℕ) → 1 ≤ k → k ≤ length t → at sizes k ≡ size t k
  pub beyond : Bare (length t) sizes

-- how many positions of each old group stay, at its old name
pub record Stayed (t Q sizes : List ℕ) : Type 0 where
  pub long : length sizes ≡ 1000
  pub held : (k : ℕ) → 1 ≤ k → k ≤ length t → at sizes k ≡ stayers t Q k
  pub beyond : Bare (length t) sizes

-- a group from which nothing moves has no tail
pub record Tails (t Q tail : List ℕ) : Type 0 where
  pub long : length tail ≡ 1000
  pub none : (k : ℕ) → 1 ≤ k → k ≤ 1000 → ((i : ℕ) → has Q i ≡ true → at t i ≢ k) → at tail k ≡ 0

-- the flags f of the small groups, and nothing beyond them
pub record Flagged (f small : List ℕ) : Type 0 where
  pub long : length small ≡ 1000
  pub held : (s : ℕ) → 1 ≤ s → s ≤ length f → at small s ≡ at f s
  pub rest : (s : ℕ) → length f < s → s ≤ 1000 → at small s ≡ 0

-- flags of groups of t: 1 only at a name, and else 0
pub record FlagsOf (t small : List ℕ) : Type 0 where
  pub long : length small ≡ 1000
  pub flag : (s : ℕ) → 1 ≤ s → s ≤ 1000 → (at small s ≡ 0) ⊎ ((at small s ≡ 1) × (s ≤ length t) × (at t s ≡ s))

-- the old names of the positions that move, and the new names of those that stay
pub record Renewed (t Q name : List ℕ) : Type 0 where
  pub long : length name ≡ 1000
  pub moved : (i : ℕ) → has Q i ≡ true → at name i ≡ at t i
  pub kept : (i : ℕ) → 1 ≤ i → i ≤ length t → has Q i ≡ false → at name i ≡ at (next_of t Q) i
  pub beyond : Bare (length t) name
