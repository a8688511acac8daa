-- `move_one` meets its contract: a turn of the loop, by the tail and the size of the group. Assumes nothing.
use native.Mathlib.Omega.{arith}
use Rattle.step7_moves.proofs.Turns.{turn_place, turn-named, turn_skip}
use Rattle.step7_moves.proofs.move_one.Goals as goal

pub load-k-requires : goal.load-k-requires
load-k-requires c = let T = c.requires.4 in (omega arith, (turn_place T).0, omega (arith, (turn_place T).1, T.start.few))

pub load-t-requires : goal.load-t-requires
load-t-requires c =
    let k = turn-named c.requires.4 c.load-k.ensures in
    (omega arith, k.0, k.1)

pub load-r-requires : goal.load-r-requires
load-r-requires c =
    let k = turn-named c.requires.4 c.load-k.ensures in
    (omega arith, k.0, k.1)

pub returns : goal.returns
returns c n m q o T = turn_skip T c.load-k.ensures (omega (arith, c.load-t.ensures, c.if-t-gt0.false)) (omega (arith, c.load-r.ensures, c.if-several.false))
