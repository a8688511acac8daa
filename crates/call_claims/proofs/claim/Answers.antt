-- `call_claims::claim` meets its contract: each return is the verdict there, test by test in the definition's order. Assumes nothing.
use mathlib.Core.Path.{sym, ap, ◌∙◌}
use native.Mathlib.Omega.{arith}
use Prim.Native.Nat.{ℕ}
use Rattle.std.specs.Prelude.{Ok}
use Rattle.words_claims.specs.declared.Verdict.{Verdict}
use Rattle.words_claims.proofs.Said.{verdict_said}
use Rattle.words_claims.proofs.Verdicts.{outside_is, inside_is, tells_long, tells_outside, tells_shorter, tells_yes, tells_copies}
use Rattle.read_edges.proofs.Refused.{too_long_handed}
use Rattle.call_claims.proofs.claim.Goals.{else-twice-via-then-twice+else-count-copies, else-twice-via-else-twice}
use Rattle.call_claims.proofs.claim.Goals as goal

pub returns-in_err-check_length : goal.returns-in_err-check_length
returns-in_err-check_length c =
    let l = c.in_err-check_length.ensures.err in
    rw (too_long_handed _ _ _ c.from_residual.ensures.1 l) (verdict_said _ _ _ _ _ (sym (tells_long _ _ _ _ l.0)))

pub returns-then-is_outside : goal.returns-then-is_outside
returns-then-is_outside c =
    verdict_said _ _ _ _ _ (sym (tells_outside _ _ _ _ c.in_ok-check_length.ensures.ok (outside_is _ _ _ _ (sym c.is_outside.ensures ∙ c.if-is_outside.true))))

pub returns-then-root-period : goal.returns-then-root-period
returns-then-root-period c =
    verdict_said _ _ _ _ _
    (sym
    (tells_shorter _ _ _ _ c.in_ok-check_length.ensures.ok (inside_is _ _ _ _ (sym c.is_outside.ensures ∙ c.if-is_outside.false)) (omega (arith, c.root_at-root.ensures, c.if-root-period.true))
    ∙ ap (λ (c : ℕ). Ok (Verdict.Shorter c)) (sym c.root_at-root.ensures)))

pub returns-then-count-copies : goal.returns-then-count-copies
returns-then-count-copies c =
    verdict_said _ _ _ _ _
    (sym
    (tells_yes _ _ _ _ c.in_ok-check_length.ensures.ok (inside_is _ _ _ _ (sym c.is_outside.ensures ∙ c.if-is_outside.false)) (omega (arith, c.root_at-root.ensures, c.if-root-period.false))
    c.if-twice.true (sym c.copies_at-count.ensures ∙ c.if-count-copies.true)))

pub returns : goal.returns
returns c =
    verdict_said _ _ _ _ _
    (sym
    (tells_copies _ _ _ _ c.in_ok-check_length.ensures.ok (inside_is _ _ _ _ (sym c.is_outside.ensures ∙ c.if-is_outside.false)) (omega (arith, c.root_at-root.ensures, c.if-root-period.false))
    (λ two q. elim c.else-twice.branch [
      | else-twice-via-then-twice+else-count-copies w ↦ w.if-count-copies.false (c.copies_at-count.ensures ∙ q)
      | else-twice-via-else-twice w ↦ omega (arith, two, w.if-twice.false)
    ])
    ∙ ap (λ (c : ℕ). Ok (Verdict.Copies c)) (sym c.copies_at-count.ensures)))
