-- Document 02, item 6: where a primer u sits in a read x, and its reverse complement. The letters of a primer count from 0, the positions of a read from 1.
use Rattle.std.specs.Prelude.{ℕ, ◌+◌, ◌-◌, Bool, ◌&&◌, List, length, get_or, eqb}
use Rattle.words.specs.Range.{first, every, cells, passing}
use Rattle.words.specs.Reads.{at, fits}
use Rattle.words_primers.specs.Bases.{set_of, letter_for, matches, complement_of}

-- the most letters that a primer may have
abbrev pub longest : ℕ
longest = 60

-- letter k is foreign: it is no letter of the code
unfoldable pub foreign : List ℕ → ℕ → Bool
foreign u k = eqb (set_of (get_or u k 0)) 0

-- the first foreign letter; the length if there is none
unfoldable pub first_foreign : List ℕ → ℕ
first_foreign u = first (foreign u) (length u) 0

-- letter k of a primer that starts at position i lets in the read's letter there
unfoldable pub lets_in : List ℕ → List ℕ → ℕ → ℕ → Bool
lets_in x u i k = matches (set_of (at x (i + k))) (set_of (get_or u k 0))

-- the primer sits at position i: it ends inside the read, and each of its letters lets in the read's
unfoldable pub sits : List ℕ → List ℕ → ℕ → Bool
sits x u i = fits x (length u) i && every (lets_in x u i) (length u) 0

-- all positions at which it sits, ascending
unfoldable pub places : List ℕ → List ℕ → List ℕ
places x u = passing (sits x u) (length x) 1

-- the letter that stands for the complement of each base of a letter
unfoldable pub turned : ℕ → ℕ
turned b = letter_for (complement_of (set_of b))

-- the reverse complement: from the last letter to the first, each turned
unfoldable pub reverse_complement : List ℕ → List ℕ
reverse_complement u = cells (λ k. turned (get_or u (length u - 1 - k) 0)) (length u) 0
