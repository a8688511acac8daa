-- `step5_queue::push_group` meets its contract: the walk from the name by the distances puts the left neighbour of each position of the group
-- behind the others. The measure is what is left of the read. Assumes nothing.
use Prim.Native.Nat.{◌+◌, ◌≤◌, ◌<◌}
use native.Mathlib.Omega.{arith}
use Rattle.step5_queue.proofs.Growing.{grown_group}
use Rattle.step5_queue.proofs.Walks.{left-room, walked_start, walked_inside, walked_room, walked_next, walked_end}
use Rattle.step5_queue.proofs.push_group.Goals.{In-loop-d}
use Rattle.step5_queue.proofs.push_group.Goals as goal

-- the next position is inside, and there is room for its left neighbour
inside : (c : In-loop-d) → (c.loop-d.j + c.loop-d.d ≤ 1000) × (c.loop-d.k < 1000)
inside c =
    let W = c.loop-d.invariant c.requires.0 (grown_group _ _ _ _ _ c.push_left-k.ensures _ _ _ c.requires.1) in
    (omega (arith, walked_inside _ _ _ _ _ _ _ _ W, c.requires.1.all.few), walked_room _ _ _ _ _ _ _ _ W c.loop-d-test.true)

pub push_left-k-requires : goal.push_left-k-requires
push_left-k-requires c =
    let p = c.requires.1 in
    (p.all.long, omega (arith, p.high, p.all.few), left-room _ c.args.s _ _ p)

pub loop-d-init : goal.loop-d-init
loop-d-init c t G = walked_start _ _ _ _ _ _ _ G c.push_left-k.ensures c.load_wide-d.ensures

pub loop-d-preserved : goal.loop-d-preserved
loop-d-preserved c t G =
    walked_next _ _ _ _ _ _ c.loop-d.j c.loop-d.d (c.loop-d.invariant t G) _ _ _ G c.loop-d-test.true
    c.store_wide.ensures c.load_wide-d-in-loop-d.ensures

pub returns : goal.returns
returns c t G =
    let g = c.push_left-k.ensures in
    walked_end _ _ _ _ _ _ _ _ (c.loop-d.invariant t (grown_group _ _ _ _ _ g _ _ _ G)) _ _ G (omega (arith, c.loop-d-test.false)) g

pub overflow_add-j : goal.overflow_add-j
overflow_add-j c = omega (arith, (inside (goal.at.overflow_add-j c).In-loop-d).0)

pub overflow_add-k : goal.overflow_add-k
overflow_add-k c = omega (arith, (inside (goal.at.overflow_add-k c).In-loop-d).1)

pub overflow_cast-j : goal.overflow_cast-j
overflow_cast-j c = omega (arith, (inside (goal.at.overflow_cast-j c).In-loop-d).0)

pub store_wide-requires : goal.store_wide-requires
store_wide-requires c = (omega arith, omega arith, omega (arith, (inside (goal.at.store_wide-requires c).In-loop-d).1))

pub load_wide-d-requires-in-loop-d : goal.load_wide-d-requires-in-loop-d
load_wide-d-requires-in-loop-d c = (omega arith, omega (arith, c.loop-d-test.true), (inside (goal.at.load_wide-d-requires-in-loop-d c).In-loop-d).0)

pub loop-d-smaller : goal.loop-d-smaller
loop-d-smaller c = omega (arith, c.loop-d-test.true, (inside (goal.at.loop-d-smaller c).In-loop-d).0)
