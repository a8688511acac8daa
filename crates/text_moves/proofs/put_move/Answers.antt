-- `text_moves::put_move` meets its contract: the three pieces of its text, one after another. Assumes nothing.
use mathlib.Core.Path.{◌∙◌}
use Rattle.text_moves.proofs.Pieces.{under-room, place_room, move_end_room, move_puts}
use Rattle.text_moves.proofs.put_move.Goals as goal

pub put_under-next-requires : goal.put_under-next-requires
put_under-next-requires c =
    (c.requires.0, under-room _ _ (c.wide-place.ensures ∙ c.place_of.ensures) c.requires.1)

pub put_spaced-next-requires : goal.put_spaced-next-requires
put_spaced-next-requires c =
    place_room _ _ (c.wide-place.ensures ∙ c.place_of.ensures) c.requires.1 c.put_under-next.ensures

pub put_end-requires : goal.put_end-requires
put_end-requires c =
    (c.requires.0, move_end_room _ _ (c.wide-place.ensures ∙ c.place_of.ensures) c.requires.1 c.put_under-next.ensures c.put_spaced-next.ensures)

pub returns : goal.returns
returns c =
    move_puts _ _ (c.wide-place.ensures ∙ c.place_of.ensures) c.requires.1 c.put_under-next.ensures c.put_spaced-next.ensures
    c.put_end.ensures
