-- `Places::mark` meets its contract: one bit of one word is put in, and that word's bit of the last one. Assumes nothing.
use Rattle.step2_bits.proofs.Words.{put_in}
use Rattle.step2_bits.proofs.Places.mark.Goals as goal

pub invariant_of-self : goal.invariant_of-self
invariant_of-self c = record { sound = (put_in _ c.args.self.now.sound _ c.requires.0 c.requires.1).0 }

pub returns : goal.returns
returns c = (put_in _ c.args.self.now.sound _ c.requires.0 c.requires.1).1
