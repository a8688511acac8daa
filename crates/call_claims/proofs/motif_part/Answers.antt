-- `call_claims::motif_part` meets its contract: the part is shown or hidden by its length. Assumes nothing.
use Prim.Native.Nat.{◌≤◌}
use mathlib.Core.Path.{sym, ◌∙◌}
use native.Mathlib.Omega.{arith}
use Rattle.words_claims.specs.Calls.{motif_length}
use Rattle.words_claims.proofs.Motifs.{shown-fits}
use Rattle.call_claims.proofs.Parts.{part-shown, part_hidden}
use Rattle.call_claims.proofs.motif_part.Goals.{Else-count-eq0}
use Rattle.call_claims.proofs.motif_part.Goals as goal

some : (c : Else-count-eq0) → let a = c.args in 1 ≤ motif_length a.read.now a.start a.period a.copies
some c = omega (arith, c.motif_length-count.ensures, c.if-count-eq0.false)

pub returns-then-count-eq0 : goal.returns-then-count-eq0
returns-then-count-eq0 c = part_hidden _ _ _ _ (sym c.motif_length-count.ensures ∙ c.if-count-eq0.true)

pub overflow_sub-result : goal.overflow_sub-result
overflow_sub-result c = omega (arith, shown-fits _ _ _ _ (some (goal.at.overflow_sub-result c).Else-count-eq0))

pub returns : goal.returns
returns c = rw c.motif_length-count.ensures (part-shown _ _ _ _ (some (goal.at.returns c).Else-count-eq0))
