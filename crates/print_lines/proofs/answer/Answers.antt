-- `print_lines::answer` meets its contract: the text is written to the rest of the buffer, from its place on.
use Rattle.std.proofs.Common.{arith}
use Rattle.print_lines.proofs.Hearing.{heard}
use Rattle.print_lines.proofs.Collecting.{place_inside, printable, collected}
use Rattle.print_lines.proofs.answer.Goals as goal

pub slice_bounds-write_answer-count : goal.slice_bounds-write_answer-count
slice_bounds-write_answer-count c =
    omega (arith, place_inside (heard (omega (arith, c.requires.0)) (omega arith) c.hear-found.ensures) c.requires.1 c.hear-found.auto.list c.room-o.ensures)

pub slice_bounds-write_answer-start : goal.slice_bounds-write_answer-start
slice_bounds-write_answer-start c =
    omega (arith, place_inside (heard (omega (arith, c.requires.0)) (omega arith) c.hear-found.ensures) c.requires.1 c.hear-found.auto.list c.room-o.ensures)

pub write_answer-n-requires : goal.write_answer-n-requires
write_answer-n-requires c =
    printable (heard (omega (arith, c.requires.0)) (omega arith) c.hear-found.ensures) c.requires.1 c.hear-found.auto.list c.room-o.ensures

pub returns : goal.returns
returns c =
    collected (heard (omega (arith, c.requires.0)) (omega arith) c.hear-found.ensures) c.requires.1 c.hear-found.auto.list c.room-o.ensures
    c.write_answer-n.ensures c.write_answer-n.auto.buf _
