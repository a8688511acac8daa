-- `slots::load` meets its contract: the number at place i is the one at index i - 1. Assumes nothing.
use Rattle.words.specs.Reads.{at}
use Rattle.slots.proofs.load.Goals as goal

pub returns : goal.returns
unfolding at
returns c = cc
