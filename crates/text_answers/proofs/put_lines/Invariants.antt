-- `text_answers::put_lines` meets its contract: after k turns the texts of the first k lines are put. Assumes nothing.
use mathlib.Core.Path.{◌≡◌}
use lib.ListN.{length}
use Rattle.words.specs.Range.{gather}
use Rattle.text_puts.specs.Puts.{Puts}
use Rattle.text_answers.specs.Texts.{line_text}
use Rattle.text_answers.proofs.put_lines.Given as goal

abbrev pub invariant-loop-k : goal.invariant-loop-k
invariant-loop-k l = (length l.buf ≡ length l.initial.buf) × Puts l.initial.buf l.at (gather (line_text l.list) l.k 0) l.buf l.next
