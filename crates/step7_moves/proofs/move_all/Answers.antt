-- `move_all` meets its contract: each place of the queue has its turn. Assumes nothing.
use Prim.Native.Nat.{suc, ◌+◌, ◌-◌}
use mathlib.Core.Path.{◌≡◌}
use native.Mathlib.Omega.{arith}
use Rattle.step7_moves.specs.Moving.{Turn}
use Rattle.step7_moves.proofs.Turns.{moving_start, moving-end, turn_here}
use Rattle.step7_moves.proofs.move_all.Goals.{After-load-i}
use Rattle.step7_moves.proofs.move_all.Goals as goal

turn : (c : After-load-i) → Turn c.args.n c.args.m c.args.w (c.loop-q.q - 1) c.args.a.now c.loop-q.a c.load-i.result c.loop-q.made.parts c.loop-q.made.groups
turn c = let e : c.loop-q.q - 1 + 1 ≡ c.loop-q.q = omega arith in turn_here c.requires (omega arith) (rw e c.load-i.ensures) c.loop-q.invariant

pub loop-q-init : goal.loop-q-init
loop-q-init c = moving_start c.requires

pub move_one-made-requires : goal.move_one-made-requires
move_one-made-requires c = (_, _, _, _, turn (goal.at.move_one-made-requires c).After-load-i)

pub loop-q-preserved : goal.loop-q-preserved
loop-q-preserved c = let e : c.loop-q.q + 1 - 1 ≡ suc (c.loop-q.q - 1) = omega arith in rw e (c.move_one-made.ensures _ _ _ _ (turn (goal.at.loop-q-preserved c).After-load-i))

pub returns : goal.returns
returns c = moving-end c.requires (omega arith) c.loop-q.invariant

-- after the last turn
pub returns-2 : goal.returns-2
returns-2 c = moving-end c.requires (omega arith) (c.move_one-made.ensures _ _ _ _ (turn (goal.at.returns-2 c).After-load-i))
