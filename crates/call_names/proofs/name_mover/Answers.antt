-- `call_names::name_mover` meets its contract: the old name is kept if a new part begins. Assumes nothing.
use mathlib.Core.Path.{sym, ◌∙◌}
use Rattle.call_names.proofs.Kept.{part_new, part-old}
use Rattle.call_names.proofs.name_mover.Goals as goal

pub returns-then-name_one : goal.returns-then-name_one
returns-then-name_one c =
    let l = c.load-k.ensures in
    let e = c.name_one.ensures in
    (rw l at e.0, rw l at (c.store.ensures ∙ sym (part_new _ _ _ _ _ _ e.1 c.if-name_one.true)))

pub returns-else-name_one : goal.returns-else-name_one
returns-else-name_one c =
    let l = c.load-k.ensures in
    let e = c.name_one.ensures in
    (rw l at e.0, rw l at (sym (part-old _ _ c.args.part.now _ _ _ e.1 c.if-name_one.false)))
