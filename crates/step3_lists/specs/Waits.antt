-- Who waits, and on which list. The list of d is looked at only at width d, and a distance never falls: so it is enough that each position whose distance
-- is still to come is on some list that comes no later.
use Rattle.std.specs.Prelude.{ℕ, ◌≤◌, List}
use Rattle.words.specs.Reads.{at}
use Rattle.step1_rows.specs.Rows.{row, DIST, HEAD, AFTER}
use Rattle.step3_lists.specs.Lists.{Place, Lists}

-- own says on which list each place is, 0 for none: on no list below b, on some list if its distance, 1,000 at most, is c or more, and on none that comes
-- after its last distance, where it has one
pub record Waits (b c : ℕ) (own : List ℕ) (dist last : ℕ → ℕ) : Type 0 where
  pub low : (i : ℕ) → Place i → dist i ≤ 1000
  pub above : (i : ℕ) → Place i → 1 ≤ at own i → b ≤ at own i
  pub there : (i : ℕ) → Place i → c ≤ dist i → 1 ≤ at own i
  pub early : (i : ℕ) → Place i → 1 ≤ at own i → 1 ≤ last i → at own i ≤ last i

-- the rows hold the lists of those that wait from width b on; last has the distance that each will have there, 0 for none
pub record WaitingFor (b : ℕ) (last : ℕ → ℕ) (a : List (List ℕ)) : Type 0 where
  pub own : List ℕ
  pub lists : Lists own (row a HEAD) (row a AFTER)
  pub waits : Waits b b own (at (row a DIST)) last

-- between two steps each has that distance: the list of b has every position of distance b
abbrev pub Waiting : ℕ → List (List ℕ) → Type 0
Waiting b a = WaitingFor b (at (row a DIST)) a
