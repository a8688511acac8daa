-- `text_answers::put_line` meets its contract: the part of the slice that it hands on is row k. Assumes nothing.
use Prim.Native.Nat.{◌+◌}
use native.Mathlib.Omega.{arith}
use native.Mathlib.Nat.{mul-le-mul_right}
use Rattle.words.specs.Lists.{line_size}
use Rattle.words.proofs.LineLayout.{line-some}
use Rattle.row_cells.proofs.Adding.{room_fits}
use Rattle.text_answers.proofs.Listing.{line_is}
use Rattle.text_answers.proofs.put_line.Goals as goal

pub overflow_add-k : goal.overflow_add-k
overflow_add-k c =
    omega (arith, room_fits line_size c.args.list.now (c.args.k + 1) (omega (arith, c.requires.0)), mul-le-mul_right (c.args.k + 1) line-some)

pub put_numbers-requires : goal.put_numbers-requires
put_numbers-requires c =
    rw (c.part.ensures, c.line_size.ensures) (rw line_is at c.requires.1)

pub returns : goal.returns
returns c = rw (line_is, ← c.line_size.ensures, ← c.part.ensures) c.put_numbers.ensures
