-- Lists of places, one for each distance. Places run from 1 to 1,000. `head` has the first place of each list, 0 if there is none; `after` has at a place
-- one more than the place that follows on its list, so 1 at the last, and 0 at a place that is on no list. A list has no order that callers may rely on.
use Rattle.std.specs.Prelude.{ℕ, ◌-◌, ◌≤◌, ◌≡◌, length}
use mathlib.Core.List.{List, [], ◌∷◌, Memᴰ}
use Rattle.words.specs.Reads.{at}

-- i is a place of an array
abbrev pub Place : ℕ → Type 0
Place i = (1 ≤ i) × (i ≤ 1000)

-- from h on, 0 for none, the links lead over the places l, one after another, and end there
unfoldable pub Chain : List ℕ → ℕ → List ℕ → Type 0
Chain after h [] = h ≡ 0
Chain after h (i ∷ l) = (h ≡ i) × Place i × (1 ≤ at after i) × Chain after (at after i - 1) l

-- head and after hold the lists on which the places are by own, 0 for none: `on` has the places of each list
pub record Lists (own head after : List ℕ) : Type 0 where
  pub lo : length own ≡ 1000
  pub lh : length head ≡ 1000
  pub la : length after ≡ 1000
  pub on : ℕ → List ℕ
  pub chain : (d : ℕ) → Place d → Chain after (at head d) (on d)
  pub listed : (d i : ℕ) → Place d → Place i → at own i ≡ d → Memᴰ i (on d)
  pub only : (d i : ℕ) → Place d → Memᴰ i (on d) → at own i ≡ d
  pub within : (i : ℕ) → Place i → at own i ≤ 1000
  pub free : (i : ℕ) → Place i → at own i ≡ 0 → at after i ≡ 0
