-- `base_sets::letter_sets` meets its contract: the table is the definition's. Assumes nothing.
use Rattle.base_sets.proofs.Tables.{sets_laid_out}
use Rattle.base_sets.proofs.letter_sets.Goals as goal

pub returns : goal.returns
returns c = sets_laid_out
