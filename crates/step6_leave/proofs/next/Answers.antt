-- `next` meets its contract, by the test. Assumes nothing.
use mathlib.Core.Path.{sym}
use native.Mathlib.Omega.{arith}
use Rattle.step6_leave.proofs.Stores.{joined-some, joined-none}
use Rattle.step6_leave.proofs.next.Goals as goal

pub returns-then-d-eq0 : goal.returns-then-d-eq0
returns-then-d-eq0 c = sym (joined-none _ _ (omega (arith, c.if-d-eq0.true)))

pub returns : goal.returns
returns c = sym (joined-some _ _ (omega (arith, c.if-d-eq0.false)))
