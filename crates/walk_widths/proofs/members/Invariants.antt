-- `members` meets its contract: the measure is how many places are left. Assumes nothing.
use Rattle.std.specs.Prelude.{sum}
use Rattle.step2_bits.specs.Sets.{flags}
use Rattle.walk_widths.proofs.members.Given as goal

abbrev pub decreases-loop-s : goal.decreases-loop-s
decreases-loop-s g l = sum (flags l.set.words)
