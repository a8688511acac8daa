-- `kept` meets its contract: each array is copied out of its row. Assumes nothing.
use borrow.Author.Rules.{rules}
use Rattle.step1_rows.specs.Rows.{row}
use Rattle.partition.proofs.kept.Goals as goal

pub returns : goal.returns
unfolding row
returns c = search rules
