-- `call_indexes::index` meets its contract: each return says what document 02 says there. Assumes nothing.
use mathlib.Core.Path.{sym, ◌∙◌}
use native.Mathlib.Omega.{arith}
use Rattle.call_indexes.proofs.Said.{loose_said, full_said, entries_said}
use Rattle.call_indexes.proofs.index.Goals as goal

pub returns-then-not-in_order : goal.returns-then-not-in_order
returns-then-not-in_order c =
    let k = c.first_loose-k.ensures in
    rw k (loose_said _ _ (sym c.in_order.ensures ∙ c.if-not-in_order.true))

pub returns-then-entries-needed : goal.returns-then-entries-needed
returns-then-entries-needed c =
    let n = c in
    let d = n in
    full_said _ _ (sym d.in_order.ensures ∙ d.if-not-in_order.false) _ n.count_entries-needed.ensures (omega (arith, c.entries.ensures, c.if-entries-needed.true))

pub returns : goal.returns
returns c =
    let w = c in
    let u = w in
    let n = u in
    let d = n in
    entries_said _ _ (sym d.in_order.ensures ∙ d.if-not-in_order.false) _ n.count_entries-needed.ensures (omega (arith, u.entries.ensures, u.if-entries-needed.false)) _ _ w.index_lines.ensures
