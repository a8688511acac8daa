-- The new name of one position: the leader of the part of its group that was met last, if it is of that part; else its own.
use Rattle.std.specs.Prelude.{ℕ, ◌≤◌, ◌≡◌, Bool, ◌&&◌, cond, List, ltb, eqb}
use Rattle.words.specs.Reads.{at}
use Rattle.slots.specs.Slots.{put}

-- i has the mark of f, which leads a part; 0 leads none
unfoldable pub joined : List ℕ → ℕ → ℕ → Bool
joined mark f i = ltb 0 f && eqb (at mark f) (at mark i)

-- the leader of the part of the group k that was met last, if i is of that part; else i
unfoldable pub head_of : List ℕ → List ℕ → ℕ → ℕ → ℕ
head_of lead mark k i = cond (joined mark (at lead k) i) (at lead k) i

-- .. leads the group k from now on
unfoldable pub lead_of : List ℕ → List ℕ → ℕ → ℕ → List ℕ
lead_of lead mark k i = cond (joined mark (at lead k) i) lead (put lead k i)

-- .. and if it is i, the name k is kept there
unfoldable pub part_of : List ℕ → List ℕ → List ℕ → ℕ → ℕ → List ℕ
part_of lead mark part k i = cond (joined mark (at lead k) i) part (put part i k)

-- position i, the name k of its group and what leads there are places
pub record Nameable (lead : List ℕ) (k i : ℕ) : Type 0 where
  pub low : 1 ≤ i
  pub high : i ≤ 1000
  pub name_low : 1 ≤ k
  pub name_high : k ≤ 1000
  pub lead_high : at lead k ≤ 1000

-- position i of the group k gets its leader for a name, which leads the group from now on
pub record Renamed (mark : List ℕ) (k i : ℕ) (name lead name' lead' : List ℕ) : Type 0 where
  pub name_is : name' ≡ put name i (head_of lead mark k i)
  pub lead_is : lead' ≡ lead_of lead mark k i

-- .. if it stays and the position that names its group moves; else nothing changes
pub record StayerRenamed (mark : List ℕ) (i : ℕ) (name lead name' lead' : List ℕ) : Type 0 where
  pub loses : at mark i ≡ 0 → 1 ≤ at mark (at name i) → Renamed mark (at name i) i name lead name' lead'
  pub moves : 1 ≤ at mark i → (name' ≡ name) × (lead' ≡ lead)
  pub keeps : at mark i ≡ 0 → at mark (at name i) ≡ 0 → (name' ≡ name) × (lead' ≡ lead)

-- position i, its name and the name of its old group are places
pub record Leads (name part : List ℕ) (i : ℕ) : Type 0 where
  pub low : 1 ≤ i
  pub high : i ≤ 1000
  pub name_low : 1 ≤ at name i
  pub name_high : at name i ≤ 1000
  pub old_low : 1 ≤ at part (at name i)
  pub old_high : at part (at name i) ≤ 1000
