-- The groups of a table split by marks, in place: what the names and the work rooms hold on the way.
use Rattle.std.specs.Prelude.{ℕ, ◌≤◌, ◌<◌, ◌≡◌, ◌⊎◌, ◌≢◌, Bool, ◌&&◌, List, length, eqb}
use Rattle.words.specs.Range.{column, leader}
use Rattle.words.specs.Reads.{at}
use Rattle.words.specs.Groups.{Least}
use Rattle.words.specs.Moves.{move_size, place_of}
use Rattle.words.specs.Rows.{rows}
use Rattle.slots.specs.Slots.{view}
use Rattle.refine.specs.Phases.{Clean}
use Rattle.call_names.specs.Heads.{Leads}
use Rattle.call_renames.specs.Blocks.{Hit}

-- an array that holds a table of least names of n positions
pub record Groups (n : ℕ) (name : List ℕ) : Type 0 where
  pub few : n ≤ 1000
  pub long : length name ≡ 1000
  pub least : Least (view n name)

-- the work rooms between two widths: no marks, no leaders
pub record Rooms (mark lead part : List ℕ) : Type 0 where
  pub mark_clean : Clean mark
  pub lead_clean : Clean lead
  pub part-long : length part ≡ 1000

-- ---- the groups split by marks

-- i and j share a group of t and have the same mark
unfoldable pub joint : List ℕ → List ℕ → ℕ → ℕ → Bool
joint t mark i j = eqb (at t i) (at t j) && eqb (at mark i) (at mark j)

-- the table of the groups of t, split by the marks
unfoldable pub split : List ℕ → List ℕ → List ℕ
split t mark = column (leader (joint t mark)) (length t)

-- ---- the leaders

-- position i moves, or the one that names its group does
abbrev pub Torn : List ℕ → List ℕ → ℕ → Type 0
Torn t mark i = (1 ≤ at mark i) ⊎ (1 ≤ at mark (at t i))

-- h leads a part of the group k that is torn, and has been named
pub record Head (t mark : List ℕ) (done : ℕ → Type 0) (k h : ℕ) : Type 0 where
  pub high : h ≤ length t
  pub named : at t h ≡ k
  pub met : done h
  pub torn : Torn t mark h
  pub first : leader (joint t mark) h ≡ h

-- lead has, for each old group with torn positions that are done, the leader of the part that was met last, which has the highest mark so far
pub record Leading (t mark : List ℕ) (done : ℕ → Type 0) (lead : List ℕ) : Type 0 where
  pub long : length lead ≡ 1000
  pub led : (i : ℕ) → 1 ≤ i → i ≤ length t → done i → Torn t mark i → (1 ≤ at lead (at t i)) × (at mark i ≤ at mark (at lead (at t i)))
  pub heads : (k : ℕ) → 1 ≤ k → k ≤ 1000 → 1 ≤ at lead k → Head t mark done k (at lead k)

-- ---- the passes

-- a table of least names of n positions
pub record Table (n : ℕ) (t : List ℕ) : Type 0 where
  pub few : n ≤ 1000
  pub size : length t ≡ n
  pub least : Least t

-- the positions to a that stay are done
abbrev pub Unmarked : List ℕ → ℕ → ℕ → Type 0
Unmarked mark a j = (at mark j ≡ 0) × (j ≤ a)

-- those have their new names; the others still have their old ones
pub record Stayed (n : ℕ) (t mark : List ℕ) (a : ℕ) (name lead : List ℕ) : Type 0 where
  pub table : Table n t
  pub long : length name ≡ 1000
  pub made : (i : ℕ) → 1 ≤ i → i ≤ a → at mark i ≡ 0 → at name i ≡ leader (joint t mark) i
  pub kept : (i : ℕ) → 1 ≤ i → i ≤ n → (1 ≤ at mark i) ⊎ (a < i) → at name i ≡ at t i
  pub leads : Leading t mark (Unmarked mark a) lead

-- no entry from `from` to before `to` has a position that names its group
pub record Unnamed (name l : List ℕ) (from to : ℕ) : Type 0 where
  pub other : (h : ℕ) → from ≤ h → h < to → at name (place_of l h) ≢ place_of l h

-- all positions that stay are done, and those of the entries from `from` to before q
abbrev pub Covered : List ℕ → List ℕ → ℕ → ℕ → ℕ → Type 0
Covered mark l from q j = (at mark j ≡ 0) ⊎ Hit l from q j

-- those have their new names, the others their old ones, and part has the old name of each that is done and moves, at its new name
pub record Moved (n : ℕ) (t mark l : List ℕ) (from q to : ℕ) (name lead part : List ℕ) : Type 0 where
  pub table : Table n t
  pub name-long : length name ≡ 1000
  pub part-long : length part ≡ 1000
  pub made : (i : ℕ) → 1 ≤ i → i ≤ n → Covered mark l from q i → at name i ≡ leader (joint t mark) i
  pub kept : (h : ℕ) → q ≤ h → h < to → at name (place_of l h) ≡ at t (place_of l h)
  pub saved : (h : ℕ) → from ≤ h → h < q → at part (leader (joint t mark) (place_of l h)) ≡ at t (place_of l h)
  pub leads : Leading t mark (Covered mark l from q) lead

-- ---- the marks and the leaders go

-- only the entries from q to before `to` have marks and leaders left
pub record Left (l : List ℕ) (q to : ℕ) (name part mark lead : List ℕ) : Type 0 where
  pub forth : q ≤ to
  pub inside : to ≤ rows move_size l
  pub mark_long : length mark ≡ 1000
  pub lead_long : length lead ≡ 1000
  pub places : (h : ℕ) → q ≤ h → h < to → Leads name part (place_of l h)
  pub marks : (i : ℕ) → 1 ≤ i → i ≤ 1000 → 1 ≤ at mark i → Hit l q to i
  pub leads : (k : ℕ) → 1 ≤ k → k ≤ 1000 → 1 ≤ at lead k → (h : ℕ) × (q ≤ h) × (h < to) × (at part (at name (place_of l h)) ≡ k)
