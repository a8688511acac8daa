-- `text_hears::hear` meets its contract: a line over the limit is refused, and any other is handed to `list` whole.
use Rattle.std.proofs.Common.{arith}
use Rattle.words.specs.Answers.{refused_says, says}
use Rattle.text_hears.proofs.Hearing.{hears_long, hears_list}
use Rattle.text_hears.proofs.hear.Goals as goal

pub returns-then-over : goal.returns-then-over
unfolding says refused_says
returns-then-over c = hears_long _ _ _ c.if-over.true

pub returns : goal.returns
returns c = hears_list _ _ _ (omega arith) (omega arith) (omega arith) c.list.ensures.0 c.list.ensures.1
