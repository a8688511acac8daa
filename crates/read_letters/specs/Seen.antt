-- The last position of each letter among the first positions of a read x, kept by the byte: only a base that was read can be met again.
use Rattle.std.specs.Prelude.{ℕ, ◌+◌, ◌*◌, ◌/◌, ◌%◌, ◌≤◌, ◌<◌, ◌≡◌, ◌≢◌, cond, List, length, get_or, set, eqb, Option, Some, None}
use Rattle.words.specs.Reads.{letter}

-- the position that is kept for the letter c; an even one, of an unread base, has none
unfoldable pub latest : List ℕ → ℕ → ℕ
latest seen c = cond (eqb (c % 2) 0) 0 (get_or seen (c / 2) 0)

-- a position, and none where 0 stands for it
unfoldable pub place_of : ℕ → Option ℕ
place_of j = cond (eqb j 0) None (Some j)

-- i is kept for the letter c
unfoldable pub seen_with : List ℕ → ℕ → ℕ → List ℕ
seen_with seen c i = cond (eqb (c % 2) 0) seen (set seen (c / 2) i)

-- j is the last of the first i positions that has the letter c; 0 if none has it
pub record Latest (x : List ℕ) (i c j : ℕ) : Type 0 where
  pub high : j ≤ i
  pub same : 1 ≤ j → letter x j ≡ c
  pub free : (k : ℕ) → j < k → k ≤ i → letter x k ≢ c

-- each letter of a base that was read has its last position among the first i
pub record Seen (x : List ℕ) (i : ℕ) (seen : List ℕ) : Type 0 where
  pub long : length seen ≡ 256
  pub last : (b : ℕ) → Latest x i (2 * b + 1) (get_or seen b 0)
