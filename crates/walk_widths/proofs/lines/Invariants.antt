-- `lines` meets its contract: the measure is what is left. Assumes nothing.
use lib.ListN.{length}
use Rattle.walk_widths.proofs.lines.Given as goal

abbrev pub decreases-loop-end : goal.decreases-loop-end
decreases-loop-end g l = length l.rest
