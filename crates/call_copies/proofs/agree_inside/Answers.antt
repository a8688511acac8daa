-- `call_copies::agree_inside` meets its contract: the test that the code makes is the definition's. Assumes nothing.
use borrow.Author.Tests.{eq-eqb, ne_eqb}
use Rattle.call_copies.specs.Copies.{agreed_inside}
use Rattle.call_copies.proofs.agree_inside.Goals as goal

pub returns-then-p-d-ne0 : goal.returns-then-p-d-ne0
unfolding agreed_inside
returns-then-p-d-ne0 c = rw (ne_eqb _ _ c.if-p-d-ne0.true)

pub returns : goal.returns
unfolding agreed_inside
returns c = rw (eq-eqb _ _ c.if-p-d-ne0.false) c.agree.ensures
