-- `slots::store` meets its contract: place i is index i - 1. Assumes nothing.
use Rattle.slots.specs.Slots.{put}
use Rattle.slots.proofs.store.Goals as goal

pub returns : goal.returns
unfolding put
returns c = cc
