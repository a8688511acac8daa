-- `text_groups::put_shown` meets its contract: the text is there or not, by the test. Assumes nothing.
use Rattle.text_puts.proofs.Putting.{puts_none}
use Rattle.text_groups.proofs.Shapes.{shown_yes, shown_no}
use Rattle.text_groups.proofs.put_shown.Goals as goal

pub put_spaced-requires : goal.put_spaced-requires
put_spaced-requires c = rw (shown_yes _ c.if-test.true) at c.requires

pub returns-then-test : goal.returns-then-test
returns-then-test c = rw (shown_yes _ c.if-test.true) c.put_spaced.ensures

pub returns-else-test : goal.returns-else-test
returns-else-test c = rw (shown_no _ c.if-test.false) (puts_none c.requires)
