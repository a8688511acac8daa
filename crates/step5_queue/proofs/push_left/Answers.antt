-- `step5_queue::push_left` meets its contract: one number more where there is a left neighbour, and else none. Assumes nothing.
use Prim.Native.Nat.{◌-◌}
use mathlib.Core.Path.{ap}
use mathlib.Core.List.{[]}
use native.Mathlib.Omega.{arith}
use lib.ListN.{length}
use Rattle.step5_queue.proofs.Growing.{grown_none, grown_put}
use Rattle.step5_queue.proofs.Walks.{left-some, left-none}
use Rattle.step5_queue.proofs.push_left.Goals as goal

pub store_wide-requires : goal.store_wide-requires
store_wide-requires c = (omega arith, omega arith, omega (arith, ap length (left-some c.args.j c.if-j-gt1.true)))

pub returns-then-j-gt1 : goal.returns-then-j-gt1
returns-then-j-gt1 c =
    let e = left-some c.args.j c.if-j-gt1.true in
    rw (c.store_wide.ensures, e) (grown_put _ _ _ _ [] (c.args.j - 1) (grown_none _ _ c.requires.0) (omega (arith, ap length e)))

pub returns : goal.returns
returns c = rw (left-none c.args.j c.if-j-gt1.false) (grown_none _ _ c.requires.0)
