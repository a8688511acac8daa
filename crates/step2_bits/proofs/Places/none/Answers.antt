-- `Places::none` meets its contract: its words are zeros. Assumes nothing.
use Rattle.step2_bits.proofs.None.{sound_none, flags-none}
use Rattle.step2_bits.proofs.Places.none.Goals as goal

pub invariant_of-result : goal.invariant_of-result
invariant_of-result c = record { sound = sound_none }

pub returns : goal.returns
returns c = flags-none
