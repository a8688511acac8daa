-- `text_views::put_head` meets its contract: the four pieces of its line, one after another. Assumes nothing.
use Rattle.text_puts.specs.Ascii.{ascii}
use Rattle.text_views.proofs.Pieces.{read_room, length-room, bytes_room, head_end_room, head_puts}
use Rattle.text_views.proofs.put_head.Goals as goal

pub put_word-next-requires : goal.put_word-next-requires
unfolding ascii
put_word-next-requires c = read_room _ c.requires

pub put_number-next-requires : goal.put_number-next-requires
unfolding ascii
put_number-next-requires c =
    length-room _ c.requires c.put_word-next.ensures

pub put_bytes-next-requires : goal.put_bytes-next-requires
unfolding ascii
put_bytes-next-requires c =
    bytes_room _ c.requires c.put_word-next.ensures c.put_number-next.ensures

pub put_word-requires : goal.put_word-requires
unfolding ascii
put_word-requires c =
    head_end_room _ c.requires c.put_word-next.ensures c.put_number-next.ensures c.put_bytes-next.ensures

pub returns : goal.returns
unfolding ascii
returns c =
    head_puts _ c.requires c.put_word-next.ensures c.put_number-next.ensures c.put_bytes-next.ensures c.put_word.ensures
