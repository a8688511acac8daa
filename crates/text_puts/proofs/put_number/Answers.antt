-- `text_puts::put_number` meets its contract: the digits that `io::decimal` makes are put as a word, and then the byte. Assumes nothing.
use native.Mathlib.Omega.{arith}
use lib.ListN.{take}
use mathlib.Core.Path.{◌≡◌}
use Rattle.text_puts.specs.Numbers.{decimal}
use Rattle.text_puts.proofs.Decimals.{decimal_is, digits_room, byte_room, number_puts}
use Rattle.text_puts.proofs.put_number.Goals.{After-decimal-k}
use Rattle.text_puts.proofs.put_number.Goals as goal

-- the front that is put as a word
spelled : (c : After-decimal-k) → take c.decimal-k.result c.decimal-k.new.out ≡ decimal c.args.n
spelled c = decimal_is _ _ _ c.decimal-k.ensures.len c.decimal-k.ensures.digits

pub put_word-next-requires : goal.put_word-next-requires
put_word-next-requires c = digits_room _ _ (spelled (goal.at.put_word-next-requires c).After-decimal-k) c.requires

pub bounds-buf-next : goal.bounds-buf-next
bounds-buf-next c =
    omega (
      arith,
      byte_room _ _
          (spelled (goal.at.bounds-buf-next c).After-decimal-k)
          c.requires
          c.put_word-next.ensures,
    )

pub returns : goal.returns
returns c =
    number_puts _ _
    (spelled (goal.at.returns c).After-decimal-k)
    c.requires
    c.put_word-next.ensures
