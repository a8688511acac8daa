-- `text_puts::put_numbers` meets its contract: after i turns the texts of the row's first i numbers are put. Assumes nothing.
use mathlib.Core.Path.{◌≡◌}
use lib.ListN.{length}
use Rattle.words.specs.Range.{gather}
use Rattle.text_puts.specs.Numbers.{cell_text}
use Rattle.text_puts.specs.Puts.{Puts}
use Rattle.text_puts.proofs.put_numbers.Given as goal

abbrev pub invariant-loop-i : goal.invariant-loop-i
invariant-loop-i l = (length l.buf ≡ length l.initial.buf) × Puts l.initial.buf l.at (gather (cell_text l.row) l.i 0) l.buf l.next
