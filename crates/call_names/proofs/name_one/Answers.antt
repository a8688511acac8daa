-- `call_names::name_one` meets its contract: the test decides which position leads. Assumes nothing.
use mathlib.Core.Path.{refl, sym, ◌∙◌}
use Rattle.call_names.specs.Heads.{head_of, lead_of}
use Rattle.call_names.proofs.name_one.Goals as goal

pub returns-then-joins : goal.returns-then-joins
unfolding head_of lead_of
returns-then-joins c =
    let l = c.load-f.ensures in
    let e = rw l at (sym c.joins.ensures ∙ c.if-joins.true) in
    (record { name_is = c.store.ensures ∙ rw (e, l) refl; lead_is = rw e refl }, rw e refl)

pub returns : goal.returns
unfolding head_of lead_of
returns c =
    let e = rw c.load-f.ensures at (sym c.joins.ensures ∙ c.if-joins.false) in
    (record { name_is = rw e c.store-3.ensures; lead_is = rw e c.store-2.ensures }, rw e refl)
