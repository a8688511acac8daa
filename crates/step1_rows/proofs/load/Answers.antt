use borrow.Author.Rules.{rules}
use Rattle.words.specs.Reads.{at}
use Rattle.step1_rows.specs.Rows.{row}
use Rattle.step1_rows.proofs.load.Goals as goal

pub returns : goal.returns
unfolding at row
returns c = search rules
