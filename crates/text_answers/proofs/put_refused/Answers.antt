-- `text_answers::put_refused` meets its contract: the three pieces of its text, one after another. Assumes nothing.
use Rattle.text_puts.specs.Ascii.{ascii}
use Rattle.text_puts.proofs.Pieces.{second_room, third_room, three_puts}
use Rattle.text_answers.proofs.Refused.{refused_is, refused-room}
use Rattle.text_answers.proofs.put_refused.Goals as goal

pub put_word-at-requires : goal.put_word-at-requires
unfolding ascii
put_word-at-requires c = refused-room _ _ c.requires

pub put_number-at-requires : goal.put_number-at-requires
unfolding ascii
put_number-at-requires c =
    second_room _ _ _ (rw refused_is at c.requires) c.put_word-at.ensures

pub put_number-requires : goal.put_number-requires
unfolding ascii
put_number-requires c =
    third_room _ _ _ (rw refused_is at c.requires) c.put_word-at.ensures c.put_number-at.ensures

pub returns : goal.returns
unfolding ascii
returns c =
    rw refused_is
    (three_puts _ _ _ (rw refused_is at c.requires) c.put_word-at.ensures c.put_number-at.ensures c.put_number.ensures)
