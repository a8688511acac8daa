-- `fresh` meets its contract. The loop's invariant: the first k positions are done. Assumes nothing.
use mathlib.Core.Path.{◌≡◌, refl}
use native.Mathlib.Omega.{arith}
use Rattle.read_letters.proofs.Kept.{byte_is, seen_some, seen_none}
use Rattle.step4_fresh.proofs.Begun.{begun_start, join_asks, begun-next, begun_first, begun-end}
use Rattle.step4_fresh.proofs.fresh.Goals.{in-Some, in-None}
use Rattle.step4_fresh.proofs.fresh.Goals as goal

pub loop-k-init : goal.loop-k-init
loop-k-init c = let s = c.requires in begun_start _ s.2 _ _ s.3

pub next_letter-requires : goal.next_letter-requires
next_letter-requires c =
    let l = c.loop-k in
    let m = seen_some _ _ l.k _ (byte_is _ _ _ c.wide.ensures) l.invariant.met _ _ c.in-Some.ensures (omega (arith, c.type_inv.read c.wide.result)) in
    join_asks _ _ _ _ _ l.k _ m.1 m.2 l.invariant (omega arith) (omega arith) m.0

pub loop-k-preserved : goal.loop-k-preserved
loop-k-preserved c =
    let l = c.loop-k in
    let has = byte_is _ _ _ c.wide.ensures in
    let byte = c.type_inv.read c.wide.result in
    elim c.match-last_alike.branch [
      | in-Some w ↦
          let m = seen_some _ _ l.k _ has l.invariant.met _ _ w.in-Some.ensures (omega arith) in
          rw (w.a-is, w.small-is) (begun-next _ _ _ _ _ l.k _ m.1 m.2 l.invariant (omega arith) (omega arith) m.0 _ w.next_letter.ensures)
      | in-None w ↦
          let m = seen_none _ _ l.k _ has l.invariant.met _ w.in-None.ensures (omega arith) in
          let g = w.first_letter.ensures in
          rw (w.a-is, w.small-is, g.0) (begun_first _ _ _ _ _ l.k _ m.0 m.1 l.invariant (omega arith) (omega arith) _ refl g.1)
    ]

pub returns : goal.returns
returns c =
    let e : c.loop-k.k ≡ c.args.n = omega arith in
    begun-end _ _ _ _ _ c.requires.1 c.requires.0 (rw e at c.loop-k.invariant)
