-- `detach` meets its contract, by the test. Assumes nothing.
use native.Mathlib.Omega.{arith}
use Rattle.step6_leave.proofs.Gone.{detached_some, detached_none}
use Rattle.step6_leave.proofs.detach.Goals as goal

pub returns-then-d-gt0 : goal.returns-then-d-gt0
returns-then-d-gt0 c =
    rw (c.store-then-d-gt0.ensures, c.store.ensures) (detached_some _ _ _ _ c.requires.0 c.if-d-gt0.true)

pub returns-else-d-gt0 : goal.returns-else-d-gt0
returns-else-d-gt0 c =
    let s = c.requires in
    detached_none _ _ _ _ s.0 s.3 (omega (arith, c.if-d-gt0.false))
