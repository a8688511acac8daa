-- `call_renames::mark_block`: the loop's invariant. The entries before q are of widths to v, and have marked. Assumes nothing.
use Rattle.call_renames.specs.Blocks.{Marking}
use Rattle.call_renames.proofs.mark_block.Given as goal

abbrev pub invariant-loop-q : goal.invariant-loop-q
invariant-loop-q l = Marking l.log l.v l.q l.mark
