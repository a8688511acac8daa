-- A set of places from 1 to 1,000 as bits of 64-bit words, lowest first: word b, from 0, has the places 64 * b + 1 to 64 * b + 64. The last word,
-- 16, has a bit for each of the others that is not 0.
use Rattle.std.specs.Prelude.{ℕ, ◌-◌, ◌/◌, ◌%◌, ◌^◌, ◌≤◌, ◌<◌, min, ◌≡◌, ◌≢◌, List, length, get_or, Option, MatchOption}
use Rattle.std.specs.Coded.{Coded-set, coded_ℕ, le_prop}
use Rattle.words.specs.Range.{column}
use Rattle.words.specs.Reads.{at}
use Rattle.slots.specs.Slots.{put}
use Rattle.bits.specs.Bits.{bit}

-- 1 if the place s is in the set, else 0
unfoldable pub flag : List ℕ → ℕ → ℕ
flag set s = bit (get_or set ((s - 1) / 64) 0) ((s - 1) % 64)

-- these of the places 1 to 1,000
unfoldable pub flags : List ℕ → List ℕ
flags set = column (flag set) 1000

-- the words are 17, hold places up to 1,000, and the last one says which of the others have any
pub record Sound (set : List ℕ) : Type 0 where
  pub long : length set ≡ 17
  pub fits : (b : ℕ) → b < 16 → get_or set b 0 < 2 ^ 64
  pub within : (s : ℕ) → 1000 < s → s ≤ 1024 → flag set s ≡ 0
  pub top : get_or set 16 0 < 2 ^ 16
  pub told : (b : ℕ) → b < 16 → bit (get_or set 16 0) b ≡ min 1 (get_or set b 0)

-- there is one proof of it at most
pub Sound-prop : (set : List ℕ) → IsProp (Sound set)
Sound-prop set a b = λ i. record {
  long = Coded-set coded_ℕ _ _ a.long b.long i;
  fits = λ c h. le_prop (a.fits c h) (b.fits c h) i;
  within = λ s h l. Coded-set coded_ℕ _ _ (a.within s h l) (b.within s h l) i;
  top = le_prop a.top b.top i;
  told = λ c h. Coded-set coded_ℕ _ _ (a.told c h) (b.told c h) i;
}

-- f has no place
pub record Empty (f : List ℕ) : Type 0 where
  pub none : (s : ℕ) → 1 ≤ s → s ≤ 1000 → at f s ≡ 0

-- r is the least place of f, or 0 if f has none
pub record First (f : List ℕ) (r : ℕ) : Type 0 where
  pub high : r ≤ 1000
  pub none : r ≡ 0 → Empty f
  pub some : 1 ≤ r → at f r ≡ 1
  pub below : (s : ℕ) → 1 ≤ s → s < r → at f s ≡ 0

-- g is f without its least place r, or f has none
abbrev pub LeastTaken : List ℕ → Option ℕ → List ℕ → Type 0
LeastTaken f r g = MatchOption r (Empty f × (g ≡ f)) (λ s. (1 ≤ s) × First f s × (g ≡ put f s 0))

-- f has exactly the places at which an array has the number p
pub record Where (a : List ℕ) (p : ℕ) (f : List ℕ) : Type 0 where
  pub hit : (i : ℕ) → 1 ≤ i → i ≤ 1000 → at a i ≡ p → at f i ≡ 1
  pub miss : (i : ℕ) → 1 ≤ i → i ≤ 1000 → at a i ≢ p → at f i ≡ 0
