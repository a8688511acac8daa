-- `text_views::put_rows` meets its contract: after k turns the first k rows are put. Assumes nothing.
use mathlib.Core.Path.{◌≡◌}
use lib.ListN.{length}
use Rattle.words.specs.Range.{gather}
use Rattle.text_puts.specs.Puts.{Puts}
use Rattle.text_views.specs.Views.{row_text}
use Rattle.text_views.proofs.put_rows.Given as goal

abbrev pub invariant-loop-k : goal.invariant-loop-k
invariant-loop-k l = (length l.buf ≡ length l.initial.buf) × Puts l.initial.buf l.at (gather (row_text l.word l.c l.list) l.k 0) l.buf l.next
