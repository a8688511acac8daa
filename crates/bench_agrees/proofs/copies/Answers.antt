-- `bench_agrees::copies` meets its contract: the places passed are starts, each with the next one in the table. Assumes nothing.
use mathlib.Core.Path.{refl, sym, ◌∙◌}
use native.Mathlib.Omega.{arith}
use Rattle.words.proofs.Searches.{missed_more}
use Rattle.bench_agrees.proofs.Gaps.{stops_yes, stops_no, copies_found, copies_ended, chain-inside}
use Rattle.bench_agrees.proofs.copies.Goals as goal

pub returns-then-gap-p : goal.returns-then-gap-p
returns-then-gap-p c =
    let l = c.loop-k in
    sym
    (copies_found c.args.links.now.table.now c.args.p c.args.i l.k c.loop-k-test.true l.invariant.2
    (stops_yes c.args.links.now.table.now c.args.p c.args.i l.k l.j l.invariant.1 (λ q. c.if-gap-p.true (c.gap.ensures ∙ q))))

pub overflow_add-j : goal.overflow_add-j
overflow_add-j c =
    let l = c.loop-k in
    omega (
      arith,
      chain-inside c.args.links.now.table.now c.args.p c.args.i l.j (sym c.gap.ensures ∙ c.if-gap-p.false) l.invariant.0,
    )

pub loop-k-preserved : goal.loop-k-preserved
loop-k-preserved c =
    let l = c.loop-k in (
      chain-inside c.args.links.now.table.now c.args.p c.args.i l.j (sym c.gap.ensures ∙ c.if-gap-p.false) l.invariant.0,
      omega (arith, l.invariant.1),
      missed_more _ _ _ _ l.invariant.2 (stops_no c.args.links.now.table.now c.args.p c.args.i l.k l.j l.invariant.1
          (sym c.gap.ensures ∙ c.if-gap-p.false)) refl,
    )

pub returns : goal.returns
returns c =
    let l = c.loop-k in
    let e = copies_ended c.args.links.now.table.now c.args.p c.args.i l.k (omega arith) l.invariant.2 in
    omega (arith, e)
