-- `close` meets its contract, by the test. Assumes nothing.
use native.Mathlib.Omega.{arith}
use Rattle.step6_leave.proofs.Gone.{closed_some, closed_none}
use Rattle.step6_leave.proofs.close.Goals as goal

pub returns-then-p-gt0 : goal.returns-then-p-gt0
returns-then-p-gt0 c = closed_some _ _ _ _ _ _ _ c.if-p-gt0.true c.bridge.ensures

pub returns-else-p-gt0 : goal.returns-else-p-gt0
returns-else-p-gt0 c =
    let s = c.requires in
    rw (c.store.ensures, c.next.ensures) (closed_none _ _ _ _ _ _ s.0.long (omega (arith, c.if-p-gt0.false)))
