-- Document 02, item 7, "A read is scored when each primer sits exactly once, left before right without overlap, and exactly one leading repeat ..": of a read x, a left primer u,
-- a right one v and a motif m, the place of the repeat that is scored, or the first refusal in the order.
use Rattle.std.specs.Prelude.{ℕ, ◌+◌, Bool, not, cond, List, length, get_or, ltb, eqb, Result, Ok, Err}
use Rattle.words.specs.Logs.{within}
use Rattle.words.specs.Calls.{too_long}
use Rattle.words_primers.specs.Primers.{longest, first_foreign, places}
use Rattle.words_markers.specs.Fits.{fittings}
use Rattle.words.specs.declared.Refusal.{Refusal}
use Rattle.words_markers.specs.declared.Seats.{Seats}

-- a list has none, or more than one; and the one that it has
unfoldable pub none : List ℕ → Bool
none l = eqb (length l) 0

unfoldable pub several : List ℕ → Bool
several l = ltb 1 (length l)

unfoldable pub only : List ℕ → ℕ
only l = get_or l 0 0

-- where a primer sits, if it sits exactly once, and the first position behind it
unfoldable pub seat : List ℕ → List ℕ → ℕ
seat x u = only (places x u)

unfoldable pub behind : List ℕ → List ℕ → ℕ
behind x u = seat x u + length u

-- the positions between the primers, after 10, 11 and 12, each for the left primer first
unfoldable pub seated : List ℕ → List ℕ → List ℕ → Result Seats Refusal
seated x u v =
    cond (none (places x u)) (Err (Refusal.Missing 1))
    (cond (none (places x v)) (Err (Refusal.Missing 2))
    (cond (several (places x u)) (Err (Refusal.MoreThanOnce 1))
    (cond (several (places x v)) (Err (Refusal.MoreThanOnce 2))
    (cond (ltb (seat x v) (behind x u)) (Err Refusal.OutOfOrder)
    (Ok (record { from = (behind x u); to = (seat x v) }))))))

-- the same after the library's own refusals, 1, 8 and 9, each for the left primer first
unfoldable pub seats : List ℕ → List ℕ → List ℕ → Result Seats Refusal
seats x u v =
    cond (too_long x) (Err (Refusal.TooLong (length x)))
    (cond (not (within 1 longest (length u))) (Err (Refusal.BadLength (length u)))
    (cond (not (within 1 longest (length v))) (Err (Refusal.BadLength (length v)))
    (cond (ltb (first_foreign u) (length u)) (Err (Refusal.Foreign (first_foreign u)))
    (cond (ltb (first_foreign v) (length v)) (Err (Refusal.Foreign (first_foreign v)))
    (seated x u v)))))

-- the only one of the starts l, after 13 and 14
unfoldable pub only_one : List ℕ → Result ℕ Refusal
only_one l =
    cond (none l) (Err Refusal.NoRepeat)
    (cond (several l) (Err Refusal.Several)
    (Ok (only l)))

-- the only repeat that fits between the primers
unfoldable pub site_in : List ℕ → List ℕ → Result Seats Refusal → Result ℕ Refusal
site_in x m (Ok s) = only_one (fittings x m s.from s.to)
site_in x m (Err why) = Err why

unfoldable pub site : List ℕ → List ℕ → List ℕ → List ℕ → Result ℕ Refusal
site x u v m = site_in x m (seats x u v)
