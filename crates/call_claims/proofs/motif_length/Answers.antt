-- `call_claims::motif_length` meets its contract, verdict by verdict. Assumes nothing.
use Prim.Native.Nat.{ℕ}
use mathlib.Core.Path.{◌≡◌, sym, ap, ◌∙◌}
use Rattle.std.specs.Prelude.{Result, Ok}
use Rattle.words.specs.declared.Refusal.{Refusal}
use Rattle.words_claims.specs.declared.Verdict.{Verdict}
use Rattle.words_claims.specs.Calls.{verdict, shown_of, motif_length}
use Rattle.words_claims.proofs.Said.{said_verdict}
use Rattle.words_claims.proofs.Motifs.{length_of}
use Rattle.call_claims.proofs.motif_length.Goals.{After-claim}
use Rattle.call_claims.proofs.motif_length.Goals as goal

-- the verdict that was told is the claim's
told : (c : After-claim) → let a = c.args in verdict a.read.now a.start a.period a.copies ≡ c.claim.result
told c = sym (said_verdict _ _ _ _ _ c.claim.ensures)

-- .. and is this one, where that is what was told
of_verdict : (c : After-claim) (w v : Verdict) → c.claim.result ≡ Ok w → w ≡ v → let a = c.args in motif_length a.read.now a.start a.period a.copies ≡ shown_of a.period (Ok v)
of_verdict c w v e q = length_of _ _ _ _ _ (told c ∙ e ∙ ap (λ (u : Verdict). Ok u) q)

pub returns-in-Ok-Yes : goal.returns-in-Ok-Yes
unfolding shown_of
returns-in-Ok-Yes c = sym (of_verdict (goal.at.returns-in-Ok-Yes c).After-claim _ _ c.in-Ok-Yes.is c.in-Ok-Yes.field-0-is)

pub returns-in-Ok-Shorter : goal.returns-in-Ok-Shorter
unfolding shown_of
returns-in-Ok-Shorter c = sym (of_verdict (goal.at.returns-in-Ok-Shorter c).After-claim _ _ c.in-Ok-Shorter.is c.in-Ok-Shorter.field-0-is)

pub returns-in-Ok-Copies : goal.returns-in-Ok-Copies
unfolding shown_of
returns-in-Ok-Copies c = sym (of_verdict (goal.at.returns-in-Ok-Copies c).After-claim _ _ c.in-Ok-Copies.is c.in-Ok-Copies.field-0-is)

pub returns-in-Ok-Outside : goal.returns-in-Ok-Outside
unfolding shown_of
returns-in-Ok-Outside c = sym (of_verdict (goal.at.returns-in-Ok-Outside c).After-claim _ _ c.in-Ok-Outside.is c.in-Ok-Outside.field-0-is)

pub returns-in-Err : goal.returns-in-Err
unfolding shown_of
returns-in-Err c = sym (length_of _ _ _ _ _ (told (goal.at.returns-in-Err c).After-claim ∙ c.in-Err.is))
