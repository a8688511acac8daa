-- `text_groups::put_spaced` meets its contract: a space, then the digits that were made. Assumes nothing.
use mathlib.Core.Path.{◌≡◌}
use lib.ListN.{take}
use Rattle.text_puts.specs.Numbers.{decimal}
use Rattle.text_puts.proofs.Decimals.{decimal_is}
use Rattle.text_puts.proofs.Putting.{room-left, puts_room, puts_more}
use Rattle.text_groups.specs.Groups.{spaced}
use Rattle.text_groups.proofs.put_spaced.Goals.{After-decimal-k}
use Rattle.text_groups.proofs.put_spaced.Goals as goal

-- the front that is put as a word
spelled : (c : After-decimal-k) → take c.decimal-k.result c.decimal-k.new.out ≡ decimal c.args.n
spelled c = decimal_is _ _ _ c.decimal-k.ensures.len c.decimal-k.ensures.digits

pub put_word-next-requires : goal.put_word-next-requires
unfolding spaced
put_word-next-requires c = room-left _ c.requires

pub put_word-requires : goal.put_word-requires
unfolding spaced
put_word-requires c =
    rw (spelled (goal.at.put_word-requires c).After-decimal-k) (puts_room c.put_word-next.ensures c.requires)

pub returns : goal.returns
unfolding spaced
returns c =
    puts_more c.put_word-next.ensures (rw (← spelled (goal.at.returns c).After-decimal-k) c.put_word.ensures) c.requires
