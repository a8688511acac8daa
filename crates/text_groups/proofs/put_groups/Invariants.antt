-- `text_groups::put_groups` meets its contract: after i turns the lines of the first i names are put. Assumes nothing.
use mathlib.Core.Path.{◌≡◌}
use lib.ListN.{length}
use Rattle.words.specs.Range.{gather}
use Rattle.text_puts.specs.Puts.{Puts}
use Rattle.text_groups.specs.Groups.{group_text}
use Rattle.text_groups.proofs.put_groups.Given as goal

abbrev pub invariant-loop-i : goal.invariant-loop-i
invariant-loop-i l = (length l.buf ≡ length l.initial.buf) × Puts l.initial.buf l.at (gather (group_text l.links.table.now) l.i 1) l.buf l.next
