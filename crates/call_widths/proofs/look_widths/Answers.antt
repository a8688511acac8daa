-- `call_widths::look_widths` meets its contract. The loop's invariant: the walk has come to width p, the rows of the periods below p are written, and those
-- that have one are counted; the measure is how many widths are left. Assumes nothing.
use mathlib.Core.Path.{refl, sym}
use native.Mathlib.Omega.{arith}
use lib.ListN.{length}
use borrow.Author.Rules.{rules}
use Rattle.words.proofs.Sizes.{top-some, top_few}
use Rattle.refine.proofs.Zeros.{zeros_clean}
use Rattle.step1_rows.specs.Rows.{row}
use Rattle.steps.proofs.Begins.{begin_asks}
use Rattle.steps.proofs.Phases.{held_passed}
use Rattle.steps.proofs.Walks.{stands-passed, walks_begin, walks_on}
use Rattle.call_widths.proofs.Onward.{held_near, passed_where, listing_none, listing_more, listing_on, listing_whole, counted_none, counted_byte, byte_few, counted_on, counted_whole, counted_few}
use Rattle.call_widths.proofs.look_widths.Goals as goal

pub loop-p-init : goal.loop-p-init
loop-p-init c =
    let S = c.begin.ensures in
    let e = c.top_of-top.ensures in
    (walks_begin _ _ _ _ _ (omega (arith, e, top-some (length c.args.read.now))) S.0 S.1, listing_none _ _ _, e, search rules, omega arith, zeros_clean.long, c.none-found.ensures, sym (counted_none _ _))

pub pass-requires : goal.pass-requires
pass-requires c =
    let I = c.loop-p.invariant in
    let H = I.0.held in
    let l = c.loop-p-test.true in
    (H.long, I.0.waits (omega (arith, l)), I.0.low, omega (arith, I.2, l, top_few _ H.few))

pub rows_at-more-requires : goal.rows_at-more-requires
unfolding row
rows_at-more-requires c =
    let I = c.loop-p.invariant in
    let H = I.0.held in
    let E = c.pass.ensures in
    (held_near _ _ _ (held_passed _ _ _ H _ E.0 E.1) _ I.0.low, passed_where _ _ _ _ _ E.1 I.6 E.3, omega (arith, I.2, I.4, c.loop-p-test.true, top_few _ H.few), I.5)

pub overflow_add-periods : goal.overflow_add-periods
overflow_add-periods c =
    let I = c.loop-p.invariant in
    omega (arith, byte_few _ _ c.from-periods.ensures, counted_few _ _ _ _ I.7, I.2, I.3, top_few _ I.0.held.few)

pub onward-p-requires : goal.onward-p-requires
onward-p-requires c =
    let I = c.loop-p.invariant in
    let E = c.pass.ensures in
    (held_passed _ _ _ I.0.held _ E.0 E.1, E.2, I.0.low, omega (arith, c.loop-p-test.true), omega (arith, I.2, top_few _ I.0.held.few))

pub loop-p-preserved : goal.loop-p-preserved
unfolding row
loop-p-preserved c =
    let I = c.loop-p.invariant in
    let W = I.0 in
    let E = c.pass.ensures in
    let S = stands-passed _ _ _ _ _ _ E.0 E.1 (W.here (omega (arith, c.loop-p-test.true))) in
    let L = c.rows_at-more.ensures in
    let O = c.onward-p.ensures in
    let N = O.4 _ S in
    let M = listing_more _ _ _ _ _ _ _ _ _ _ _ W.low S I.1 L.0 in
    let C = c.from-periods.ensures in (
      walks_on _ _ _ _ _ _ _ (omega (arith, O.2)) O.0 O.1 N,
      listing_on _ _ _ _ _ _ _ _ _ _ _ O.2 O.3 N M,
      I.2,
      O.3,
      omega (arith, L.1, I.4, O.2, W.low),
      L.2,
      L.3,
      counted_on _ _ _ _ _ _ _ _ _ O.2 O.3 N (counted_byte _ _ _ _ _ _ _ _ _ _ W.low I.1 M I.7 C),
    )

pub returns : goal.returns
returns c =
    let I = c.loop-p.invariant in
    (listing_whole _ _ _ _ _ _ _ refl (omega (arith, I.2, c.loop-p-test.false)) (omega (arith, I.2, I.3)) I.1, counted_whole _ _ _ _ _ refl (omega (arith, I.2, c.loop-p-test.false)) (omega (arith, I.2, I.3)) I.7)

pub begin-requires : goal.begin-requires
begin-requires c = (search rules, search rules, begin_asks, c.none-small.ensures)
