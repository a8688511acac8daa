-- `text_groups::put_members` meets its contract: the members before the link are put, all of them where it is none. Assumes nothing.
use mathlib.Core.Path.{refl}
use native.Mathlib.Omega.{arith}
use Rattle.text_puts.proofs.Putting.{puts_none}
use Rattle.text_groups.proofs.Walks.{next-link, walk_start, walk_end, walk-link, walk_less, walk-room, walk_puts}
use Rattle.text_groups.proofs.put_members.Goals as goal

pub loop-here-init : goal.loop-here-init
loop-here-init c =
    let e = c.first_of-here.ensures in
    (next-link _ _ 0 _ e, refl, rw (walk_start _ _ _ e) (puts_none c.requires))

pub put_spaced-next-requires : goal.put_spaced-next-requires
put_spaced-next-requires c =
    let i = rw c.in-Some.is at c.loop-here.invariant in
    walk-room _ _ _ i.0 c.requires i.2

pub next_of-here-requires : goal.next_of-here-requires
next_of-here-requires c =
    let i = rw c.in-Some.is at c.loop-here.invariant in
    (i.0.0, i.0.1)

pub loop-here-smaller : goal.loop-here-smaller
loop-here-smaller c =
    let i = rw c.in-Some.is at c.loop-here.invariant in
    rw c.in-Some.is (walk_less _ _ _ i.0 c.next_of-here.ensures)

pub loop-here-preserved : goal.loop-here-preserved
loop-here-preserved c =
    let i = rw c.in-Some.is at c.loop-here.invariant in
    let e = c.next_of-here.ensures in
    (walk-link _ _ _ i.0 e, omega arith, walk_puts _ _ _ i.0 e c.requires i.2 c.put_spaced-next.ensures)

pub returns : goal.returns
returns c =
    let i = rw c.in_default.is at c.loop-here.invariant in
    rw (← walk_end c.args.links.now.table.now c.args.s) i.2
