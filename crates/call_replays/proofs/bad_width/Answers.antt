-- `call_replays::bad_width` meets its contract: the tests that the code makes are the definition's. Assumes nothing.
use mathlib.Core.Path.{◌∙◌}
use borrow.Author.Tests.{eq-eqb, ne_eqb}
use Rattle.call_judges.proofs.Tuples.{upto_within}
use Rattle.call_replays.proofs.bad_width.Goals as goal

pub returns-then-n-eq0 : goal.returns-then-n-eq0
returns-then-n-eq0 c = rw (eq-eqb _ _ c.if-n-eq0.true)

pub returns-else-n-eq0 : goal.returns-else-n-eq0
returns-else-n-eq0 c =
    let e = c.new.ensures in
    let inside = upto_within 1 c.top_of.result c.args.width _ _ _ _ e.start (e.end ∙ c.from.ensures) e.exhausted c.contains.ensures.value in
    rw (ne_eqb _ _ c.if-n-eq0.false, ← c.top_of.ensures, inside)
