-- `bench_agrees::part_end` meets its contract: the rows passed have the number, and the one it stops at has not. Assumes nothing.
use Prim.Native.Nat.{◌-◌}
use mathlib.Core.Path.{refl, sym, ◌∙◌}
use native.Mathlib.Omega.{arith}
use Rattle.words.specs.Rows.{rows, cell}
use Rattle.words.proofs.Searches.{missed_more, first_hit, first_ended}
use Rattle.bench_agrees.specs.Parts.{differs, part_end}
use Rattle.bench_agrees.proofs.Rows.{differs_yes, differs_no}
use Rattle.bench_agrees.proofs.part_end.Goals as goal

pub returns-then-wide-w : goal.returns-then-wide-w
unfolding part_end cell
returns-then-wide-w c =
    let l = c.loop-k in
    sym
    (first_hit (differs c.args.c c.args.list.now c.args.j c.args.w) (rows c.args.c c.args.list.now - c.args.from)
    c.args.from l.k l.invariant (omega arith) (omega arith) (differs_yes _ _ _ _ (c.wide.ensures ∙ c.cell.ensures 0) c.if-wide-w.true))

pub loop-k-preserved : goal.loop-k-preserved
unfolding cell
loop-k-preserved c = missed_more _ _ _ _ c.loop-k.invariant (differs_no _ _ _ _ (c.wide.ensures ∙ c.cell.ensures 0) c.if-wide-w.false) refl

pub returns : goal.returns
unfolding part_end
returns c =
    let l = c.loop-k in
    let e = first_ended (differs c.args.c c.args.list.now c.args.j c.args.w) (rows c.args.c c.args.list.now - c.args.from)
    c.args.from l.k l.invariant (omega arith) in
    omega (arith, e)
