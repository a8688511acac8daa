-- `call_renames::clean` meets its contract: new arrays hold nothing. Assumes nothing.
use Rattle.refine.proofs.Zeros.{zeros_clean}
use Rattle.call_renames.proofs.clean.Goals as goal

pub returns-else-to-from-lt-FEW : goal.returns-else-to-from-lt-FEW
returns-else-to-from-lt-FEW c = (zeros_clean, zeros_clean)
