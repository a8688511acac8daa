-- `base_sets::letter_for` meets its contract: the table is the definition's. Assumes nothing.
use Rattle.base_sets.proofs.Tables.{letter_at}
use Rattle.base_sets.proofs.letter_for.Goals as goal

pub returns : goal.returns
returns c = letter_at c.args.set c.requires
