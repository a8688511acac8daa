-- `call_copies::byte_at` meets its contract: the place that it reads is the definition's. Assumes nothing.
use native.Mathlib.Omega.{arith}
use Rattle.std.proofs.lemmas.Option.{gets}
use Rattle.std.proofs.lemmas.Grind.{common_steps}
use Rattle.words.specs.Reads.{at}
use Rattle.call_copies.proofs.byte_at.Goals as goal

pub returns : goal.returns
unfolding at
returns c = grind (arith, common_steps, gets)
