-- `text_moves::put_moves` meets its contract: after k turns the texts of the first k entries are put. Assumes nothing.
use mathlib.Core.Path.{◌≡◌}
use lib.ListN.{length}
use Rattle.words.specs.Range.{gather}
use Rattle.text_puts.specs.Puts.{Puts}
use Rattle.text_moves.specs.Moves.{move_text}
use Rattle.text_moves.proofs.put_moves.Given as goal

abbrev pub invariant-loop-k : goal.invariant-loop-k
invariant-loop-k l = (length l.buf ≡ length l.initial.buf) × Puts l.initial.buf l.at (gather (move_text l.moves) l.k 0) l.buf l.next
