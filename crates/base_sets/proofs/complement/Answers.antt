-- `base_sets::complement` meets its contract: the moved bits are the definition's. Assumes nothing.
use native.Mathlib.Omega.{arith}
use Rattle.words_primers.proofs.Sets.{complement_small}
use Rattle.base_sets.proofs.Tables.{moved_is}
use Rattle.base_sets.proofs.complement.Goals as goal

pub returns : goal.returns
returns c = let e = moved_is c.args.set c.requires in (e, omega (arith, e, complement_small c.args.set c.requires))
