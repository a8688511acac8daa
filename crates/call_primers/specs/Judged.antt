-- How a primer u is judged before anything is done with it.
use Rattle.std.specs.Prelude.{ℕ, ◌≡◌, ◌≤◌, ◌<◌, ◌⊎◌, true, false, List, length}
use Rattle.words.specs.Logs.{within}
use Rattle.words.specs.declared.Refusal.{Refusal}
use Rattle.words_primers.specs.Primers.{longest, first_foreign}

-- it has 1 to 60 letters, all of the code
abbrev pub IsPrimer : List ℕ → Type 0
IsPrimer u = (within 1 longest (length u) ≡ true) × (length u ≤ first_foreign u)

-- it is refused: by its length, or else by its first letter that is none of the code
abbrev pub IsRefused : List ℕ → Refusal → Type 0
IsRefused u why =
    ((within 1 longest (length u) ≡ false) × (why ≡ Refusal.BadLength (length u)))
    ⊎ ((within 1 longest (length u) ≡ true) × (first_foreign u < length u) × (why ≡ Refusal.Foreign (first_foreign u)))
