-- `call_judges::comes_after` meets its contract: the test that the code makes is the definition's. Assumes nothing.
use borrow.Author.Tests.{eq-eqb, ne_eqb}
use Rattle.call_judges.specs.Judge.{follows}
use Rattle.call_judges.proofs.comes_after.Goals as goal

pub returns-then-k-eq0 : goal.returns-then-k-eq0
unfolding follows
returns-then-k-eq0 c = simp (eq-eqb _ _ c.if-k-eq0.true)

pub returns-else-k-eq0 : goal.returns-else-k-eq0
unfolding follows
returns-else-k-eq0 c = simp (ne_eqb _ _ c.if-k-eq0.false) c.ordered.ensures
