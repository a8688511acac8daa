-- `text_bytes::put_bytes` meets its contract: after i turns the first i bytes are put. Assumes nothing.
use mathlib.Core.Path.{◌≡◌, refl}
use native.Mathlib.Nat.{zero-add}
use native.Mathlib.Omega.{arith}
use lib.ListN.{length, get_or}
use Rattle.words.specs.Range.{gather}
use Rattle.text_puts.proofs.Putting.{puts_none}
use Rattle.text_puts.proofs.Pieces.{turn-room, turn_puts}
use Rattle.text_bytes.specs.Bytes.{byte_text, bytes_text}
use Rattle.text_bytes.proofs.put_bytes.Goals as goal

pub loop-b-init : goal.loop-b-init
unfolding gather
loop-b-init c = (refl, puts_none c.requires)

pub put_byte-next-requires : goal.put_byte-next-requires
unfolding bytes_text
put_byte-next-requires c = turn-room (λ k. byte_text (get_or c.args.read.now k 0)) 0 c.loop-b-test.true c.requires c.loop-b.invariant.1 (zero-add _)

pub loop-b-preserved : goal.loop-b-preserved
unfolding bytes_text
loop-b-preserved c = (
  omega arith,
  turn_puts (λ k. byte_text (get_or c.args.read.now k 0)) 0 c.loop-b-test.true c.requires c.loop-b.invariant.1 (zero-add _) c.put_byte-next.ensures,
)

pub returns : goal.returns
unfolding bytes_text
returns c = let e : c.loop-b.b-index ≡ length c.args.read.now = omega arith in
    rw e at c.loop-b.invariant.1
