-- The entries of one width of a log: where they stand, and the marks that they make.
use Rattle.std.specs.Prelude.{ℕ, ◌≤◌, ◌<◌, ◌≡◌, ◌⊎◌, List, length}
use Rattle.words.specs.Rows.{rows}
use Rattle.words.specs.Reads.{at}
use Rattle.words.specs.Moves.{move_size, width_of, name_of, place_of}
use Rattle.words.specs.Replay.{under}

-- the entries before k are those of a width below v
pub record Splits (l : List ℕ) (v k : ℕ) : Type 0 where
  pub inside : k ≤ rows move_size l
  pub lower : (h : ℕ) → h < k → width_of l h < v
  pub upper : (h : ℕ) → k ≤ h → h < rows move_size l → v ≤ width_of l h

-- the first q entries are of widths to v, and mark holds the name under which each position moved at v by them; 0 if it did not
pub record Marking (l : List ℕ) (v q : ℕ) (mark : List ℕ) : Type 0 where
  pub long : length mark ≡ 1000
  pub lower : (h : ℕ) → h < q → width_of l h ≤ v
  pub hit : (h : ℕ) → h < q → width_of l h ≡ v → at mark (place_of l h) ≡ name_of l h
  pub miss : (i : ℕ) → 1 ≤ i → i ≤ 1000 → ((h : ℕ) → h < q → width_of l h ≡ v → place_of l h ≡ i → ⊥) → at mark i ≡ 0

-- .. and by all
pub record Marks (l : List ℕ) (v : ℕ) (mark : List ℕ) : Type 0 where
  pub long : length mark ≡ 1000
  pub held : (i : ℕ) → 1 ≤ i → i ≤ 1000 → at mark i ≡ under l v i

-- one of the entries from `from` to before `to` has the position i
abbrev pub Hit : List ℕ → ℕ → ℕ → ℕ → Type 0
Hit l from to i = (h : ℕ) × (from ≤ h) × (h < to) × (place_of l h ≡ i)

-- the entries from `from` to before `to` are there and have positions of 1 to n
pub record Places (n : ℕ) (l : List ℕ) (from to : ℕ) : Type 0 where
  pub forth : from ≤ to
  pub inside : to ≤ rows move_size l
  pub place : (h : ℕ) → from ≤ h → h < to → (1 ≤ place_of l h) × (place_of l h ≤ n)

-- the entries from `from` to before `to` mark positions of 1 to n, all that are marked, in order of the mark, then the position
pub record Block (n : ℕ) (l mark : List ℕ) (from to : ℕ) : Type 0 where
  pub long : length mark ≡ 1000
  pub places : Places n l from to
  pub marked : (h : ℕ) → from ≤ h → h < to → (1 ≤ name_of l h) × (at mark (place_of l h) ≡ name_of l h)
  pub rises : (g h : ℕ) → from ≤ g → g < h → h < to → (name_of l g < name_of l h) ⊎ ((name_of l g ≡ name_of l h) × (place_of l g < place_of l h))
  pub all : (i : ℕ) → 1 ≤ i → i ≤ 1000 → 1 ≤ at mark i → Hit l from to i
