-- The next position of a group in a table t of names, and lists that hold it by name and by position.
use Rattle.std.specs.Prelude.{ℕ, suc, ◌-◌, ◌≤◌, ◌≡◌, cond, Option, Some, None, List, length, take, leb, eqb}
use Rattle.words.specs.Range.{first}
use Rattle.words.specs.Reads.{at}

-- the first position after i of the group named s; 0 if there is none
unfoldable pub next_in : List ℕ → ℕ → ℕ → ℕ
next_in t s i = let k = first (λ j. eqb (at t j) s) (length t - i) (suc i) in cond (leb k (length t)) k 0

-- a position, where 0 stands for none
abbrev pub or_none : ℕ → Option ℕ
or_none i = cond (eqb i 0) None (Some i)

-- by name: the first position of its group
abbrev pub Heads : (t head : List ℕ) → Type 0
Heads t head = (s : ℕ) → 1 ≤ s → s ≤ length head → at head s ≡ next_in t s 0

-- by position: the next position of its group
abbrev pub Nexts : (t after : List ℕ) → Type 0
Nexts t after = (i : ℕ) → 1 ≤ i → i ≤ length after → at after i ≡ next_in t (at t i) i

-- two arrays of 1,000 places, the first of which holds no position yet
pub record Bare (head after : List ℕ) : Type 0 where
  pub lh : length head ≡ 1000
  pub la : length after ≡ 1000
  pub none : (s : ℕ) → 1 ≤ s → s ≤ 1000 → at head s ≡ 0

-- the first k places of two arrays are such lists
pub record Linked (t head after : List ℕ) (k : ℕ) : Type 0 where
  pub lh : k ≤ length head
  pub la : k ≤ length after
  pub heads : Heads t (take k head)
  pub nexts : Nexts t (take k after)
