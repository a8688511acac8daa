-- Document 02, item 4: the verdict of the claim check, its number and what is told with it, and the part of the read that the motif call hands back, for every input there is.
use Rattle.std.specs.Prelude.{ℕ, ◌-◌, cond, List, length, take, drop, eqb, Result, Ok, Err}
use Rattle.words.specs.Repeats.{copies}
use Rattle.words.specs.Answers.{Answer, success, both, says}
use Rattle.words.specs.Calls.{too_long}
use Rattle.words_claims.specs.Claims.{outside, root, shorter, counted}
use Rattle.words.specs.declared.Refusal.{Refusal}
use Rattle.words_claims.specs.declared.Verdict.{Verdict}

-- what is found of a claim: refusal 1 first, then, where several fit, outside, then shorter motif, then count
unfoldable pub verdict : List ℕ → ℕ → ℕ → ℕ → Result Verdict Refusal
verdict x i p e =
    cond (too_long x) (Err (Refusal.TooLong (length x)))
    (cond (outside x i p e) (Ok Verdict.Outside)
    (cond (shorter x i p) (Ok (Verdict.Shorter (root x i p)))
    (cond (counted x i p e) (Ok Verdict.Yes)
    (Ok (Verdict.Copies (copies x i p))))))

-- the verdicts by number, in the request's order: 1 yes; 2 no, with the copy count; 3 no, with the length of the root; 4 no, outside
unfoldable pub verdict_says : Verdict → Answer
verdict_says Verdict.Yes = success 1
verdict_says (Verdict.Copies c) = both 2 c
verdict_says (Verdict.Shorter d) = both 3 d
verdict_says Verdict.Outside = success 4

abbrev pub claimed_says : Result Verdict Refusal → Answer
claimed_says r = says verdict_says r

-- the claim check
unfoldable pub claim_answer : List ℕ → ℕ → ℕ → ℕ → Answer
claim_answer x i p e = claimed_says (verdict x i p e)

-- how many bytes from the claimed start on are handed back: the motif of a yes, the root where one is named, and else none
unfoldable pub shown_of : ℕ → Result Verdict Refusal → ℕ
shown_of p (Ok Verdict.Yes) = p
shown_of p (Ok (Verdict.Copies c)) = 0
shown_of p (Ok (Verdict.Shorter d)) = d
shown_of p (Ok Verdict.Outside) = 0
shown_of p (Err r) = 0

-- how many bytes the part of the read has that the motif call hands back
unfoldable pub motif_length : List ℕ → ℕ → ℕ → ℕ → ℕ
motif_length x i p e = shown_of p (verdict x i p e)

-- it starts at this place, counted from 0: that of the claimed start, and the read's front where it is empty, ..
unfoldable pub motif_from : List ℕ → ℕ → ℕ → ℕ → ℕ
motif_from x i p e = cond (eqb (motif_length x i p e) 0) 0 (i - 1)

-- .. and has these bytes
unfoldable pub motif : List ℕ → ℕ → ℕ → ℕ → List ℕ
motif x i p e = take (motif_length x i p e) (drop (motif_from x i p e) x)
