-- `call_tables::write_table` meets its contract. The loop's invariant: the walk has come to width v; the measure is how many widths are left. Assumes
-- nothing.
use Prim.Native.Nat.{ℕ}
use mathlib.Core.Path.{ap, ◌∙◌}
use mathlib.Core.List.{List, ◌++◌}
use native.Mathlib.Omega.{arith}
use lib.ListN.{length, drop}
use borrow.Author.Rules.{rules}
use Rattle.step1_rows.specs.Rows.{row}
use Rattle.steps.proofs.Begins.{begin_asks}
use Rattle.steps.proofs.Phases.{held_passed}
use Rattle.steps.proofs.Walks.{stands-passed, walks_begin, walks_on, walks_reach}
use Rattle.call_tables.proofs.write_table.Goals as goal

pub loop-v-init : goal.loop-v-init
loop-v-init c = let B = c.begin.ensures in (search rules, walks_begin _ _ _ _ _ c.requires.2 B.0 B.1)

pub onward-v-requires : goal.onward-v-requires
onward-v-requires c =
    let E = c.pass.ensures in
    let W = c.loop-v.invariant.1 in
    (held_passed _ _ _ W.held _ E.0 E.1, E.2, W.low, omega (arith, c.loop-v-test.true), c.requires.3)

pub loop-v-preserved : goal.loop-v-preserved
loop-v-preserved c =
    let E = c.pass.ensures in
    let S = c.loop-v.invariant.1.here (omega (arith, c.loop-v-test.true)) in
    let O = c.onward-v.ensures in
    (O.3, walks_on _ _ _ _ _ _ _ (omega (arith, O.2)) O.0 O.1 (O.4 _ (stands-passed _ _ _ _ _ _ E.0 E.1 S)))

pub copy_names-requires : goal.copy_names-requires
unfolding row
copy_names-requires c =
    let W = c.loop-v.invariant.1 in
    (c.requires.0, search rules, W.held.long.each 0 (omega arith))

pub returns : goal.returns
unfolding row
returns c =
    let S = walks_reach _ _ _ _ _ _ (omega (arith, c.loop-v-test.false)) c.loop-v.invariant.1 in
    c.copy_names.ensures ∙ ap (λ (t : List ℕ). t ++ drop (length c.args.read.now) c.args.out.now) S.names

pub begin-requires : goal.begin-requires
begin-requires c = (search rules, search rules, begin_asks, c.none-small.ensures)
