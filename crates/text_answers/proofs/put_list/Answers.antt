-- `text_answers::put_list` meets its contract: the five pieces of its text, one after another. Assumes nothing.
use Rattle.text_puts.specs.Ascii.{ascii}
use Rattle.text_puts.proofs.Pieces.{first-room, second_room, third_room, three_puts}
use Rattle.text_answers.proofs.Listing.{list_is, read_room}
use Rattle.text_answers.proofs.put_list.Goals as goal

pub put_word-at-requires : goal.put_word-at-requires
unfolding ascii
put_word-at-requires c = read_room _ _ _ c.requires.1

pub put_number-at-requires : goal.put_number-at-requires
unfolding ascii
put_number-at-requires c =
    second_room _ _ _ (first-room _ _ _ (rw list_is at c.requires.1)) c.put_word-at.ensures

pub put_word-at-requires-2 : goal.put_word-at-requires-2
unfolding ascii
put_word-at-requires-2 c =
    third_room _ _ _ (first-room _ _ _ (rw list_is at c.requires.1)) c.put_word-at.ensures c.put_number-at.ensures

pub put_number-at-requires-2 : goal.put_number-at-requires-2
unfolding ascii
put_number-at-requires-2 c =
    let h = rw list_is at c.requires.1 in
    second_room _ _ _ h (three_puts _ _ _ (first-room _ _ _ h) c.put_word-at.ensures c.put_number-at.ensures c.put_word-at-2.ensures)

pub put_lines-requires : goal.put_lines-requires
unfolding ascii
put_lines-requires c =
    let h = rw list_is at c.requires.1 in
    let p = three_puts _ _ _ (first-room _ _ _ h) c.put_word-at.ensures c.put_number-at.ensures c.put_word-at-2.ensures in
    (c.requires.0, third_room _ _ _ h p c.put_number-at-2.ensures)

pub returns : goal.returns
unfolding ascii
returns c =
    let h = rw list_is at c.requires.1 in
    let p = three_puts _ _ _ (first-room _ _ _ h) c.put_word-at.ensures c.put_number-at.ensures c.put_word-at-2.ensures in
    rw list_is (three_puts _ _ _ h p c.put_number-at-2.ensures c.put_lines.ensures)
