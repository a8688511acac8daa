-- `text_views::put_width` meets its contract: the six pieces of its text, one after another. Assumes nothing.
use Rattle.words.proofs.LineLayout.{line-some}
use Rattle.words_runs.proofs.RunLayout.{run-some}
use Rattle.text_puts.specs.Ascii.{ascii}
use Rattle.text_puts.specs.Puts.{Puts}
use Rattle.text_views.proofs.Pieces.{width_room_lem, number_room, table-room, moves-room, front, front_puts, lines-room, runs-room, width_puts}
use Rattle.text_views.proofs.put_width.Goals.{After-put_moves-next}
use Rattle.text_views.proofs.put_width.Goals as goal

-- all up to the moves is put
front-put : (c : After-put_moves-next) → Puts c.args.buf.now c.args.at (front c.args.w c.args.table.now c.args.moves.now c.args.lines.now c.args.runs.now c.requires) c.put_moves-next.new.buf c.put_moves-next.result
unfolding ascii
front-put c =
    front_puts _ _ _ _ _ c.requires c.put_word-next.ensures c.put_number-next.ensures c.put_table-next.ensures c.put_moves-next.ensures

pub put_word-next-requires : goal.put_word-next-requires
unfolding ascii
put_word-next-requires c = width_room_lem _ _ _ _ _ c.requires

pub put_number-next-requires : goal.put_number-next-requires
unfolding ascii
put_number-next-requires c =
    number_room _ _ _ _ _ c.requires c.put_word-next.ensures

pub put_table-next-requires : goal.put_table-next-requires
unfolding ascii
put_table-next-requires c =
    table-room _ _ _ _ _ c.requires c.put_word-next.ensures c.put_number-next.ensures

pub put_moves-next-requires : goal.put_moves-next-requires
unfolding ascii
put_moves-next-requires c =
    moves-room _ _ _ _ _ c.requires c.put_word-next.ensures c.put_number-next.ensures c.put_table-next.ensures

pub put_rows-next-requires : goal.put_rows-next-requires
unfolding ascii
put_rows-next-requires c =
    rw c.line_size.ensures (line-some, lines-room _ _ _ _ _ c.requires (front-put (goal.at.put_rows-next-requires c).After-put_moves-next))

pub put_rows-requires : goal.put_rows-requires
unfolding ascii
put_rows-requires c =
    rw c.run_size.ensures (run-some, runs-room _ _ _ _ _ c.requires (front-put (goal.at.put_rows-requires c).After-put_moves-next) (rw c.line_size.ensures at c.put_rows-next.ensures))

pub returns : goal.returns
unfolding ascii
returns c =
    width_puts _ _ _ _ _ c.requires (front-put (goal.at.returns c).After-put_moves-next) (rw c.line_size.ensures at c.put_rows-next.ensures) (rw c.run_size.ensures at c.put_rows.ensures)
