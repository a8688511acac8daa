-- `text_bytes::put_bytes` meets its contract: after i turns the first i bytes are put. Assumes nothing.
use mathlib.Core.Path.{◌≡◌}
use lib.ListN.{length, get_or}
use Rattle.words.specs.Range.{gather}
use Rattle.text_puts.specs.Puts.{Puts}
use Rattle.text_bytes.specs.Bytes.{byte_text}
use Rattle.text_bytes.proofs.put_bytes.Given as goal

abbrev pub invariant-loop-b : goal.invariant-loop-b
invariant-loop-b l =
    (length l.buf ≡ length l.initial.buf) × Puts l.initial.buf l.at (gather (λ k. byte_text (get_or l.read k 0)) l.b-index 0) l.buf l.next
