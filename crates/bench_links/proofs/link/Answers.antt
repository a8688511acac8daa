-- `bench_links::link` meets its contract: the positions from the last down to i are linked. Assumes nothing.
use Prim.Native.Nat.{◌+◌, ◌-◌}
use mathlib.Core.Path.{◌≡◌, refl}
use native.Mathlib.Omega.{arith}
use Rattle.words.specs.Reads.{at}
use Rattle.bench_links.proofs.Pass.{linked_all, linking_none, linking_one}
use Rattle.bench_links.proofs.link.Goals as goal

pub loop-i-init : goal.loop-i-init
loop-i-init c = (omega arith, linking_none _ _ _ (omega arith) c.requires)

pub loop-i-preserved : goal.loop-i-preserved
unfolding at
loop-i-preserved c =
    let i = c.loop-i.i in
    let h = c.inside.ensures c.if-not-inside.false in
    let e = c.wide.ensures in
    let v : i - 1 + 1 ≡ i = omega arith in (
      omega arith,
      rw (c.link_one.ensures.0, c.link_one.ensures.1, v)
          (linking_one c.args.table.now c.loop-i.head c.loop-i.after i (i - 1) _ (omega arith) (omega arith)
          (omega arith) refl (omega (arith, h.0, e)) (omega (arith, h.1, e)) c.loop-i.invariant.1),
    )

pub returns : goal.returns
returns c = let e : c.loop-i.i ≡ 0 = omega arith in
    linked_all _ _ _ c.loop-i.invariant.0 (rw e at c.loop-i.invariant.1)
