-- `base_sets::set_in` meets its contract: a byte before A or behind Z has no set, and the others have theirs in the table. Assumes nothing.
use mathlib.Core.Logic.{⊎_elim}
use native.Mathlib.Omega.{arith}
use Rattle.words_primers.proofs.Letters.{set_small}
use Rattle.base_sets.proofs.Tables.{set_before, set-behind, set-between}
use Rattle.base_sets.proofs.set_in.Goals as goal

pub returns-then-is_ascii_uppercase : goal.returns-then-is_ascii_uppercase
returns-then-is_ascii_uppercase c =
    let u = c.if-is_ascii_uppercase.ensures.cases in
    let e = set-between c.args.byte _ c.requires (omega (arith, u)) (omega (arith, u)) in
    (e, omega (arith, e, set_small c.args.byte))

pub returns-else-is_ascii_uppercase : goal.returns-else-is_ascii_uppercase
returns-else-is_ascii_uppercase c = (⊎_elim (set_before _) (λ g. set-behind _ g (omega arith)) c.if-is_ascii_uppercase.ensures.cases, omega arith)
