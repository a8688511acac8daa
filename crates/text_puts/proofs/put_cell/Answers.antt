-- `text_puts::put_cell` meets its contract: the number is read, and `ending` says what follows it. Assumes nothing.
use mathlib.Core.Path.{sym}
use Rattle.text_puts.specs.Numbers.{cell_text}
use Rattle.text_puts.proofs.put_cell.Goals as goal

pub put_number-requires : goal.put_number-requires
unfolding cell_text
put_number-requires c = rw c.ending.ensures c.requires.1

pub returns : goal.returns
unfolding cell_text
returns c = rw (sym c.ending.ensures) c.put_number.ensures
