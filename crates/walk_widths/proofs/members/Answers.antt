-- `members` meets its contract: the measure is how many places are left. Assumes nothing.
use Rattle.step2_bits.proofs.Flags.{flags-length}
use Rattle.step2_bits.proofs.Emptying.{taken_less}
use Rattle.walk_widths.proofs.members.Goals as goal

pub loop-s-smaller : goal.loop-s-smaller
loop-s-smaller g c = let E = c.in-Some.ensures in taken_less _ (flags-length _) _ E.0 E.1 _ E.2
