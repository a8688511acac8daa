-- `text_bytes::put_digits` meets its contract: a backslash and x, then the digits that were made. Assumes nothing.
use native.Mathlib.Omega.{arith}
use mathlib.Core.Path.{◌≡◌}
use lib.ListN.{take}
use Rattle.io.specs.Digits.{last_digits}
use Rattle.text_puts.specs.Ascii.{ascii}
use Rattle.text_puts.proofs.Putting.{room-left, puts_room, puts_more}
use Rattle.text_bytes.specs.Bytes.{digits_text}
use Rattle.text_bytes.proofs.Bytes.{hex_is}
use Rattle.text_bytes.proofs.put_digits.Goals.{After-hex-k}
use Rattle.text_bytes.proofs.put_digits.Goals as goal

-- the front that is put as a word
spelled : (c : After-hex-k) → take c.hex-k.result c.hex-k.new.out ≡ last_digits 16 2 c.args.b
spelled c = hex_is _ _ _ (omega arith) c.hex-k.ensures.len c.hex-k.ensures.digits

pub put_word-next-requires : goal.put_word-next-requires
unfolding digits_text ascii
put_word-next-requires c = room-left _ c.requires

pub put_word-requires : goal.put_word-requires
unfolding digits_text ascii
put_word-requires c =
    rw (spelled (goal.at.put_word-requires c).After-hex-k) (puts_room c.put_word-next.ensures c.requires)

pub returns : goal.returns
unfolding digits_text ascii
returns c =
    puts_more c.put_word-next.ensures (rw (← spelled (goal.at.returns c).After-hex-k) c.put_word.ensures) c.requires
