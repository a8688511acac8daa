-- `call_claims::is_outside` meets its contract: a 0 is outside, and where there is none the last byte decides, whose place fits. Assumes nothing.
use Prim.Native.Nat.{◌≤◌}
use mathlib.Core.Path.{sym}
use mathlib.Core.Logic.{inl, inr}
use native.Mathlib.Omega.{arith}
use borrow.Author.Tests.{eqb-false}
use Rattle.words_claims.proofs.Verdicts.{is_outside, outside_last}
use Rattle.call_claims.proofs.is_outside.Goals.{Else-copies-eq0, then-start-eq0-via-then-start-eq0, then-start-eq0-via-else-start-eq0+then-period-eq0, then-start-eq0-via-else-start-eq0+else-period-eq0+then-copies-eq0}
use Rattle.call_claims.proofs.is_outside.Goals as goal

small : (c : Else-copies-eq0) → c.args.copies ≤ 4294967295
small c = omega arith

pub returns-then-start-eq0 : goal.returns-then-start-eq0
returns-then-start-eq0 c =
    sym
    (is_outside _ _ _ _
    (elim c.then-start-eq0.branch [
      | then-start-eq0-via-then-start-eq0 w ↦ inl w.if-start-eq0.true
      | then-start-eq0-via-else-start-eq0+then-period-eq0 w ↦ inr (inl w.if-period-eq0.true)
      | then-start-eq0-via-else-start-eq0+else-period-eq0+then-copies-eq0 w ↦ inr (inr (inl w.if-copies-eq0.true))
    ]))

pub returns : goal.returns
returns c = outside_last _ _ _ _ (omega arith) (omega (arith, eqb-false)) (omega (arith, eqb-false))
