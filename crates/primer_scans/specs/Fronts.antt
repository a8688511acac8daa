-- The letters of a primer u as bits of a word, bit k for letter k, while a read x is gone over.
use Rattle.std.specs.Prelude.{ℕ, suc, ◌-◌, ◌^◌, ◌≤◌, ◌<◌, ◌≡◌, Bool, true, false, ◌&&◌, List, length, get_or, ltb}
use Rattle.bits.specs.Bits.{has, Bit}
use Rattle.words.specs.Range.{every}
use Rattle.words_primers.specs.Bases.{set_of, matches}
use Rattle.words_primers.specs.Primers.{longest, lets_in}

-- a word for each of the sixteen sets
pub record Words (a : List ℕ) : Type 0 where
  pub long : length a ≡ 16
  pub fits : (s : ℕ) → s < 16 → get_or a s 0 < 2 ^ longest

-- of the first n sets those that match the set p have bit k in b, besides the bits that they have in a, and the others have no more
pub record Noted (p k n : ℕ) (a b : List ℕ) : Type 0 where
  pub words : Words b
  pub hit : (s : ℕ) → s < 16 → s < n → matches s p ≡ true → Bit longest (get_or a s 0) (get_or b s 0) k 1
  pub miss : (s : ℕ) → s < 16 → s < n → matches s p ≡ false → get_or b s 0 ≡ get_or a s 0
  pub rest : (s : ℕ) → s < 16 → n ≤ s → get_or b s 0 ≡ get_or a s 0

-- the word w has the letters, of the first m, that let in the set s, and no other
pub record Lets (u : List ℕ) (s m w : ℕ) : Type 0 where
  pub each : (k : ℕ) → k < m → has w k ≡ matches s (set_of (get_or u k 0))
  pub none : (k : ℕ) → m ≤ k → has w k ≡ false

-- each set has such a word
pub record AllLet (u : List ℕ) (m : ℕ) (a : List ℕ) : Type 0 where
  pub words : Words a
  pub each : (s : ℕ) → s < 16 → Lets u s m (get_or a s 0)

-- the front of k + 1 letters ends at position j: all its letters let in
unfoldable pub front : List ℕ → List ℕ → ℕ → ℕ → Bool
front x u j k = ltb k j && every (lets_in x u (j - k)) (suc k) 0

-- the word w has the fronts that end at position j; at position 0, before the first letter, none does
pub record Fronts (x u : List ℕ) (j w : ℕ) : Type 0 where
  pub fits : w < 2 ^ longest
  pub each : (k : ℕ) → k < length u → has w k ≡ front x u j k
