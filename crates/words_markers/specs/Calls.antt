-- Document 02, item 7: for `score` the answer and for `shown` the part handed back, for every input there is; and what each case of an answer says in the document's numbers.
use Rattle.std.specs.Prelude.{ℕ, ◌-◌, Bool, true, false, cond, List, length, take, drop, ℤ, pos, Result, Ok, Err, Option, Some, None}
use Rattle.std.proofs.Math.IntN.{sub_ℕ}
use Rattle.words.specs.Repeats.{copies}
use Rattle.words.specs.Answers.{Answer, success, refused_says}
use Rattle.words_markers.specs.Houses.{line_start, house_has}
use Rattle.words_markers.specs.Sites.{site}
use Rattle.words.specs.declared.Refusal.{Refusal}
use Rattle.words_markers.specs.declared.Scored.{Scored}
use Rattle.words_markers.specs.declared.Shown.{Shown}

-- a score: the number with what is returned, the copies or what a refusal returns, and the signed difference from the reference, 0 on a refusal
pub record Score : Type 0 where
  pub answer : Answer
  pub difference : ℤ

unfoldable pub scored_says : Result Scored Refusal → Score
scored_says (Ok s) = record { answer = success s.copies; difference = s.difference }
scored_says (Err why) = record { answer = refused_says why; difference = pos 0 }

-- the score of e copies: they, and how many more than the reference they are
unfoldable pub score_of : ℕ → ℕ → Score
score_of e reference = record { answer = success e; difference = sub_ℕ e reference }

-- the score of the repeat of motif m that was found, or why there is none
unfoldable pub score_at : List ℕ → List ℕ → ℕ → Result ℕ Refusal → Score
score_at x m reference (Ok i) = score_of (copies x i (length m)) reference
score_at x m reference (Err why) = record { answer = refused_says why; difference = pos 0 }

-- the score of a read x by a marker of primers u and v, motif m and a reference count
unfoldable pub score_answer : List ℕ → List ℕ → List ℕ → List ℕ → ℕ → Score
score_answer x u v m reference = score_at x m reference (site x u v m)

-- the motif m shown for a site of the read: from the house list h if it has the marker of number k, otherwise from the read; of a read not scored nothing
unfoldable pub shown_for : List ℕ → ℕ → List ℕ → Result ℕ Refusal → Option Shown
shown_for h k m (Ok i) = cond (house_has h k m) (Some (Shown.House (line_start h k))) (Some (Shown.Read (i - 1)))
shown_for h k m (Err why) = None

unfoldable pub shown : List ℕ → List ℕ → ℕ → List ℕ → List ℕ → List ℕ → Option Shown
shown x h k u v m = shown_for h k m (site x u v m)

-- is it a part of the house list? where does it start there, or in the read? and how many bytes has it? Nothing is the empty part at the read's front
unfoldable pub of_house : Option Shown → Bool
of_house (Some (Shown.House a)) = true
of_house (Some (Shown.Read a)) = false
of_house None = false

unfoldable pub from_of : Option Shown → ℕ
from_of (Some (Shown.House a)) = a
from_of (Some (Shown.Read a)) = a
from_of None = 0

unfoldable pub count_of : List ℕ → Option Shown → ℕ
count_of m (Some (Shown.House a)) = length m
count_of m (Some (Shown.Read a)) = length m
count_of m None = 0

-- the bytes of that part
unfoldable pub part_of : List ℕ → List ℕ → List ℕ → Option Shown → List ℕ
part_of x h m s = take (count_of m s) (drop (from_of s) (cond (of_house s) h x))
