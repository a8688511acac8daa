-- No two verdicts say the same, so that the answer of the claim check tells its verdict. Assumes nothing.
use Prim.Native.Nat.{ℕ}
use mathlib.Core.Path.{◌≡◌, refl, sym, ap, ◌∙◌}
use mathlib.Core.Bool.{true, cond}
use mathlib.Core.List.{List}
use lib.ListN.{get_or}
use lib.Dec.{eqb}
use Rattle.std.specs.Prelude.{Result}
use Rattle.words.specs.Answers.{Answer, success, both}
use Rattle.words.specs.declared.Refusal.{Refusal}
use Rattle.words.proofs.Said.{Tells, said_once}
use Rattle.words_claims.specs.Calls.{verdict, verdict_says, claimed_says, claim_answer}
use Rattle.words_claims.specs.declared.Verdict.{Verdict}

-- a verdict read back, from its first value and the second
judged : ℕ → ℕ → Verdict
judged v w = cond (eqb v 1) Verdict.Yes (cond (eqb v 2) (Verdict.Copies w) (cond (eqb v 3) (Verdict.Shorter w) Verdict.Outside))

verdict_back : Answer → Verdict
verdict_back a = judged (get_or a.values 0 0) (get_or a.values 1 0)

back : (v : Verdict) → verdict_back (verdict_says v) ≡ v
unfolding verdict_back judged verdict_says success both
back Verdict.Yes = refl
back (Verdict.Copies c) = refl
back (Verdict.Shorter d) = refl
back Verdict.Outside = refl

zero : (v : Verdict) → eqb (verdict_says v).number 0 ≡ true
unfolding verdict_says success both
zero Verdict.Yes = refl
zero (Verdict.Copies c) = refl
zero (Verdict.Shorter d) = refl
zero Verdict.Outside = refl

verdicts : Tells verdict_says
verdicts = record { zero = zero; once = λ v w e. sym (back v) ∙ ap verdict_back e ∙ back w }

pub claimed_once : (a b : Result Verdict Refusal) → claimed_says a ≡ claimed_says b → a ≡ b
claimed_once a b s = said_once verdict_says verdicts a b s

module _ (x : List ℕ) (i p e : ℕ) where
  pub verdict_said : (a : Result Verdict Refusal) → a ≡ verdict x i p e → claimed_says a ≡ claim_answer x i p e
  unfolding claim_answer
  verdict_said a q = ap claimed_says q

  pub said_verdict : (a : Result Verdict Refusal) → claimed_says a ≡ claim_answer x i p e → a ≡ verdict x i p e
  unfolding claim_answer
  said_verdict a s = claimed_once a (verdict x i p e) s
