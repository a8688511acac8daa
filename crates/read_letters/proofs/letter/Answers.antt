-- `read_letters::letter` meets its contract: the test is the definition's. Assumes nothing.
use native.Mathlib.Omega.{arith}
use Rattle.words.proofs.Letters.{letter_read, letter-unread}
use Rattle.read_letters.proofs.letter.Goals as goal

pub returns-then-byte-eq-UNREAD : goal.returns-then-byte-eq-UNREAD
returns-then-byte-eq-UNREAD c = omega (arith, letter-unread c.args.byte c.args.i c.if-byte-eq-UNREAD.true)

pub returns : goal.returns
returns c = omega (arith, letter_read c.args.byte c.args.i c.if-byte-eq-UNREAD.false)
