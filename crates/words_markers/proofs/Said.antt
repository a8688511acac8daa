-- What a score says by the repeat that was found or why there is none, and that no two answers say the same. Assumes nothing.
use Prim.Native.Nat.{ℕ}
use mathlib.Core.Path.{◌≡◌, sym, ap, ◌∙◌}
use mathlib.Core.List.{List}
use lib.ListN.{length, get_or}
use lib.Dec.{eqb}
use lib.IntN.{ℤ}
use Rattle.std.specs.Prelude.{Result, Ok, Err}
use Rattle.words.specs.Answers.{Answer, success, refused_says}
use Rattle.words.specs.Repeats.{copies}
use Rattle.words.specs.declared.Refusal.{Refusal}
use Rattle.words.proofs.Tests.{clash}
use Rattle.words.proofs.Said.{refused_once, refused-some}
use Rattle.words_markers.specs.Sites.{site}
use Rattle.words_markers.specs.Calls.{Score, scored_says, score_of, score_at, score_answer}
use Rattle.words_markers.specs.declared.Scored.{Scored}

module _ (x u v m : List ℕ) (reference : ℕ) where
  pub copies_said : (i : ℕ) → site x u v m ≡ Ok i → score_answer x u v m reference ≡ score_of (copies x i (length m)) reference
  unfolding score_answer score_at
  copies_said i e = ap (score_at x m reference) e

  pub not_said : (why : Refusal) → site x u v m ≡ Err why → score_answer x u v m reference ≡ scored_says (Err why)
  unfolding score_answer score_at scored_says
  not_said why e = ap (score_at x m reference) e

-- ---- by the number and its value alone

pub copies_number : (r : Result Scored Refusal) (e : ℕ) → (scored_says r).answer ≡ success e → r ≡ Ok (record { copies = e; difference = (scored_says r).difference })
unfolding scored_says success
copies_number (Ok s) e q = ap (λ (a : Answer). Ok (record { copies = get_or a.values 0 0; difference = s.difference })) q
copies_number (Err w) e q = clash (ap (λ (a : Answer). eqb a.number 0) q) (refused-some w)

pub why_number : (r : Result Scored Refusal) (why : Refusal) → (scored_says r).answer ≡ refused_says why → r ≡ Err why
unfolding scored_says success
why_number (Ok s) why q = clash (sym (ap (λ (a : Answer). eqb a.number 0) q)) (refused-some why)
why_number (Err w) why q = ap (λ (r : Refusal). Err r) (refused_once w why q)

-- ---- no two answers say the same

pub said_once : (a b : Result Scored Refusal) → scored_says a ≡ scored_says b → a ≡ b
unfolding scored_says
said_once (Ok s) b q = sym (copies_number b s.copies (sym (ap (λ (z : Score). z.answer) q)) ∙ ap (λ (z : ℤ). Ok (record { copies = s.copies; difference = z })) (sym (ap (λ (z : Score). z.difference) q)))
said_once (Err w) b q = sym (why_number b w (sym (ap (λ (z : Score). z.answer) q)))
