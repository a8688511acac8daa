-- `call_lookups::lookup` meets its contract: the first entry of the period is given, and none where the loop meets none. Assumes nothing.
use mathlib.Core.Path.{sym, ◌∙◌}
use Prim.Native.Nat.{◌≤◌, ◌<◌}
use native.Mathlib.Omega.{arith}
use Rattle.words.specs.Rows.{rows}
use Rattle.words_index.specs.Index.{entry_size}
use Rattle.call_lookups.proofs.Looking.{entry_here, entry_none, looked_entry, looked-none}
use Rattle.call_lookups.proofs.lookup.Goals as goal

pub returns-then-here : goal.returns-then-here
returns-then-here c =
    let i = c.loop-k.invariant in
    let inside : c.loop-k.k < rows entry_size c.args.index.now = omega (arith, i.0, c.loop-k-test.true) in
    let e = entry_here _ _ _ i.1 inside (sym c.number.ensures ∙ c.if-here.true) in
    looked_entry _ _ _ e _ _ _ inside c.number-then-here.ensures c.number-then-here-2.ensures c.number-then-here-3.ensures

pub returns : goal.returns
returns c =
    let i = c.loop-k.invariant in
    let past : rows entry_size c.args.index.now ≤ c.loop-k.k = omega (arith, i.0, c.loop-k-test.false) in
    looked-none _ _ _ (entry_none _ _ _ i.1 (omega (arith, i.0, c.loop-k.auto.k-end)) past) past
