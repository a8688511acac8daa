-- `answer` of the printing program keeps what a line's text is: the list has the same room at every line.
use Rattle.std.proofs.Common.{arith}
use Rattle.print_lines.proofs.Collecting.{same-room}
use Rattle.print_streams.proofs.PrintingAnswers.answer.Goals as goal

pub returns-clause-same : goal.returns-clause-same
returns-clause-same c =
    let e = c.answer.auto.list in
    (same-room _ _ e, omega arith)
