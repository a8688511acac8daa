-- `text_moves::put_under` meets its contract: a word and the name, where a line begins. Assumes nothing.
use mathlib.Core.Path.{sym, ◌∙◌}
use Rattle.text_puts.proofs.Putting.{puts_none}
use Rattle.text_puts.specs.Ascii.{ascii}
use Rattle.text_moves.proofs.Shapes.{under_later}
use Rattle.text_moves.proofs.Pieces.{moved-room, under-name-room, under_puts}
use Rattle.text_moves.proofs.put_under.Goals as goal

pub put_word-next-requires : goal.put_word-next-requires
unfolding ascii
put_word-next-requires c =
    moved-room _ _ c.name_of-name.ensures (sym c.is_first.ensures ∙ c.if-is_first.true) c.requires.1

pub put_number-requires : goal.put_number-requires
unfolding ascii
put_number-requires c =
    under-name-room _ _ c.name_of-name.ensures (sym c.is_first.ensures ∙ c.if-is_first.true) c.requires.1 c.put_word-next.ensures

pub returns-then-is_first : goal.returns-then-is_first
unfolding ascii
returns-then-is_first c =
    under_puts _ _ c.name_of-name.ensures (sym c.is_first.ensures ∙ c.if-is_first.true) c.requires.1 c.put_word-next.ensures c.put_number.ensures

pub returns : goal.returns
returns c = rw (under_later _ _ (sym c.is_first.ensures ∙ c.if-is_first.false)) (puts_none c.requires.1)
