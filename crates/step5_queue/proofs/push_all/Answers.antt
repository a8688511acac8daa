-- `step5_queue::push_all` meets its contract: the small groups are taken in the order of their names, and all together give the queue. The measure is
-- how many are left. Assumes nothing.
use mathlib.Core.Path.{◌≡◌}
use native.Mathlib.Omega.{arith}
use lib.ListN.{length}
use Rattle.slots.specs.Slots.{view}
use Rattle.slots.proofs.Laws.{view-length}
use Rattle.step1_rows.specs.Rows.{row, NAME}
use Rattle.step2_bits.proofs.Flags.{flags-length}
use Rattle.step2_bits.proofs.Emptying.{taken_less}
use Rattle.step5_queue.specs.Filling.{Grouped, Group}
use Rattle.step5_queue.proofs.Passing.{ahead_start, ahead_group, ahead-next, ahead-end, ahead_few}
use Rattle.step5_queue.proofs.push_all.Goals.{After-push_group-k, After-wide, Start}
use Rattle.step5_queue.proofs.push_all.Goals as goal

-- how many names there are
names : (c : Start) → length (view c.args.n (row c.args.a.now NAME)) ≡ c.args.n
names c = view-length c.args.n (row c.args.a.now NAME) (omega (arith, c.requires.0, c.requires.1.each NAME (omega arith)))

grouped : (c : Start) → Grouped (view c.args.n (row c.args.a.now NAME)) c.args.a.now
grouped c = record { long = c.requires.1; few = omega (arith, names c, c.requires.0); least = c.requires.2; gaps = c.requires.3 }

-- the group that is taken next
next : (c : After-wide) → Group (view c.args.n (row c.args.a.now NAME)) c.loop-s.a c.wide.result c.loop-s.k
next c =
    let E = c.in-Some.ensures in
    rw c.wide.ensures (ahead_group _ _ _ _ _ _ c.loop-s.invariant _ E.0 E.1 (grouped (goal.at.push_group-k-requires c).Start) c.requires.4)

pub loop-s-init : goal.loop-s-init
loop-s-init c = ahead_start _ _ _ c.requires.1 (flags-length _)

pub push_group-k-requires : goal.push_group-k-requires
push_group-k-requires c = (_, next c)

pub loop-s-smaller : goal.loop-s-smaller
loop-s-smaller c = let E = c.in-Some.ensures in taken_less _ (flags-length _) _ E.0 E.1 _ E.2

pub loop-s-preserved : goal.loop-s-preserved
loop-s-preserved c =
    let E = c.in-Some.ensures in
    ahead-next _ _ _ _ _ _ c.loop-s.invariant _ E.0 E.1 _ _ (rw (← c.wide.ensures) (c.push_group-k.ensures _ (next c.before))) _ E.2

pub overflow_cast-result : goal.overflow_cast-result
overflow_cast-result c =
    let s = (goal.at.overflow_cast-result c).Start in
    omega (arith, ahead_few _ _ _ _ _ _ c.loop-s.invariant (c.in_default.ensures).0 c.args.n (names s) (grouped s) c.requires.4)

pub returns : goal.returns
returns c =
    let s = (goal.at.returns c).Start in
    let I = c.loop-s.invariant in
    let none = c.in_default.ensures in
    let E = ahead-end _ _ _ _ _ _ I none.0 c.args.n (names s) (grouped s) c.requires.4 in
    (I.grown.long, I.grown.only, E.0, E.1, rw none.1 none.0)
