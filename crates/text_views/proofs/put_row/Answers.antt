-- `text_views::put_row` meets its contract: a word, then the numbers of the row. Assumes nothing.
use mathlib.Core.Path.{◌≡◌, ◌∙◌}
use native.Mathlib.Omega.{arith}
use Rattle.words.specs.Rows.{row}
use Rattle.text_views.proofs.Cells.{rows_few, row_cut}
use Rattle.text_views.proofs.Pieces.{word_room, numbers_room, row_puts}
use Rattle.text_views.proofs.put_row.Goals.{After-part-row}
use Rattle.text_views.proofs.put_row.Goals as goal

-- the part that is cut out is the row
row_is : (c : After-part-row) → c.part-row.result.now ≡ row c.args.c c.args.list.now c.args.k
row_is c = c.part-row.ensures ∙ row_cut _ _ _

pub overflow_add-k : goal.overflow_add-k
overflow_add-k c = omega (arith, c.requires.0, rows_few c.args.c c.args.list.now)

pub put_word-next-requires : goal.put_word-next-requires
put_word-next-requires c = word_room _ _ _ _ (row_is (goal.at.put_word-next-requires c).After-part-row) c.requires.1

pub put_numbers-requires : goal.put_numbers-requires
put_numbers-requires c =
    numbers_room _ _ _ _ (row_is (goal.at.put_numbers-requires c).After-part-row) c.requires.1 c.put_word-next.ensures

pub returns : goal.returns
returns c =
    row_puts _ _ _ _ (row_is (goal.at.returns c).After-part-row) c.requires.1 c.put_word-next.ensures c.put_numbers.ensures
