-- `text_puts::ending` meets its contract: each way opens the definition's test. Assumes nothing.
use borrow.Author.Tests.{eq-eqb, ne_eqb}
use Rattle.text_puts.specs.Numbers.{ending}
use Rattle.text_puts.proofs.ending.Goals as goal

pub returns-then-i-row : goal.returns-then-i-row
unfolding ending
returns-then-i-row c = rw (eq-eqb _ _ c.if-i-row.true)

pub returns-else-i-row : goal.returns-else-i-row
unfolding ending
returns-else-i-row c = rw (ne_eqb _ _ c.if-i-row.false)
