-- `call_moves::room` meets its contract: its product is the definition's, and it fits since it is at most 9,990 moves of few numbers. Assumes nothing.
use Prim.Native.Nat.{◌*◌, ◌≤◌}
use mathlib.Core.Path.{◌≡◌}
use native.Mathlib.Omega.{arith}
use native.Mathlib.Nat.{mul-le-mul}
use Rattle.words.specs.Rows.{widest}
use Rattle.words.specs.Moves.{M}
use Rattle.words.proofs.Sizes.{room_few}
use Rattle.words.proofs.MoveLayout.{move_few}
use Rattle.call_moves.proofs.room.Goals.{After-digits}
use Rattle.call_moves.proofs.room.Goals as goal

product : (c : After-digits) → c.wide.result * c.digits.result ≤ 9990
unfolding M
product c = rw (c.wide.ensures, c.digits.ensures) (room_few _ (omega arith) c.requires)

pub returns-then-n-lt1 : goal.returns-then-n-lt1
unfolding M
returns-then-n-lt1 c = let e : c.args.n ≡ 0 = omega arith in rw e (omega arith)

pub overflow_mul-result-2 : goal.overflow_mul-result-2
overflow_mul-result-2 c = let few : c.move_size.result ≤ widest = rw c.move_size.ensures move_few in omega (arith, mul-le-mul few (product (goal.at.overflow_mul-result-2 c).After-digits))

pub returns : goal.returns
unfolding M
returns c = rw (c.move_size.ensures, c.wide.ensures, c.digits.ensures)

pub overflow_mul-result : goal.overflow_mul-result
overflow_mul-result c = omega (arith, product (goal.at.overflow_mul-result c).After-digits)
