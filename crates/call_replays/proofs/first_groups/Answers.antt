-- `call_replays::first_groups` meets its contract. The loop's invariant: the first k positions have their names. Assumes nothing.
use mathlib.Core.Path.{◌≡◌, refl, ◌∙◌}
use native.Mathlib.Omega.{arith}
use Rattle.read_letters.proofs.Kept.{byte_is, seen_some, seen_none}
use Rattle.call_replays.proofs.Named.{named_start, named_joined, named_own, named_end}
use Rattle.call_replays.proofs.first_groups.Goals.{in-Some, in-None}
use Rattle.call_replays.proofs.first_groups.Goals as goal

pub loop-k-init : goal.loop-k-init
loop-k-init c = named_start _ _ c.requires.2

pub load-s-requires : goal.load-s-requires
load-s-requires c =
    let l = c.loop-k in
    let m = seen_some _ _ l.k _ (byte_is _ _ _ c.wide.ensures) l.invariant.met _ _ c.in-Some.ensures (omega (arith, c.type_inv.read c.wide.result)) in
    (m.0, omega (arith, m.1.high))

pub loop-k-preserved : goal.loop-k-preserved
loop-k-preserved c =
    let l = c.loop-k in
    let has = byte_is _ _ _ c.wide.ensures in
    let byte = c.type_inv.read c.wide.result in
    rw c.store.ensures
    (elim c.match-l.branch [
      | in-Some w ↦
          let m = seen_some _ _ l.k _ has l.invariant.met _ _ w.in-Some.ensures (omega arith) in
          named_joined _ _ _ _ l.k _ m.1 m.2 l.invariant (omega arith) (omega arith) m.0 _ (w.s-is ∙ w.load-s.ensures)
      | in-None w ↦
          let m = seen_none _ _ l.k _ has l.invariant.met _ w.in-None.ensures (omega arith) in
          rw w.s-is (named_own _ _ _ _ l.k _ m.0 m.1 l.invariant (omega arith) (omega arith) refl)
    ])

pub returns : goal.returns
returns c =
    let e : c.loop-k.k ≡ c.args.n = omega arith in
    let N = rw e at c.loop-k.invariant in
    (N.long, named_end _ _ _ _ c.requires.1 c.requires.0 N)
