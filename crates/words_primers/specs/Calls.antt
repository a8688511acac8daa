-- Document 02, item 6: for `find_primer` and `reverse_complement` the answer and what is left in the lent slice, for every input there is.
use Rattle.std.specs.Prelude.{ℕ, not, List, length, ltb}
use Rattle.words.specs.Logs.{within}
use Rattle.words.specs.Answers.{Answer, success}
use Rattle.words.specs.Calls.{refuse, too_long, afterwards, list_afterwards}
use Rattle.words_primers.specs.Primers.{longest, first_foreign, places, reverse_complement}

-- refusal 8, the primer's length, and then 9, a foreign letter; else what comes later
unfoldable pub judged : List ℕ → Answer → Answer
judged u later =
    refuse (not (within 1 longest (length u))) 8 (length u)
    (refuse (ltb (first_foreign u) (length u)) 9 (first_foreign u)
    later)

-- the places of a primer u in a read x, written to a slice, one number a place
unfoldable pub find_answer : List ℕ → List ℕ → List ℕ → Answer
find_answer x u out =
    refuse (too_long x) 1 (length x)
    (judged u
    (refuse (ltb (length out) (length (places x u))) 3 (length (places x u))
    (success (length (places x u)))))

unfoldable pub find_leaves : List ℕ → List ℕ → List ℕ → List ℕ
find_leaves x u out = list_afterwards (find_answer x u out) (places x u) out

-- the reverse complement of a primer u, written to a slice
unfoldable pub turn_answer : List ℕ → List ℕ → Answer
turn_answer u out =
    judged u
    (refuse (ltb (length out) (length u)) 4 (length u)
    (success (length u)))

unfoldable pub turn_leaves : List ℕ → List ℕ → List ℕ
turn_leaves u out = afterwards (turn_answer u out) (reverse_complement u) out
