-- `call_moves::write_moves` meets its contract: each place of the queue gives one move. Assumes nothing.
use Prim.Native.Nat.{◌+◌, ◌*◌, ◌≤◌, ◌<◌}
use mathlib.Core.Path.{◌≡◌, refl, ◌∙◌}
use native.Mathlib.Omega.{arith}
use native.Mathlib.Nat.{mul-le-mul_left}
use Rattle.words.specs.Moves.{move_size}
use Rattle.row_cells.proofs.Stored.{stored-length}
use Rattle.call_moves.proofs.Stores.{moves_to_begin, moves_to_more}
use Rattle.call_moves.proofs.write_moves.Goals.{After-load-i, After-wide}
use Rattle.call_moves.proofs.write_moves.Goals as goal

-- the position that is loaded has a right neighbour
loaded : (c : After-load-i) → (1 ≤ c.load-i.result) × (c.load-i.result < 1000)
loaded c = rw c.load-i.ensures (c.requires.1 _ (omega arith) (omega (arith, c.loop-q-test.true)))

pub loop-q-init : goal.loop-q-init
loop-q-init c = (refl, moves_to_begin _ _ _ _ _, c.move_size-size.ensures)

-- a move's place, and the room from there on
place : (c : After-wide) → c.move_size-size.result * c.args.k + c.move_size-size.result * c.wide.result ≡ move_size * c.args.k + move_size * c.loop-q.q
place c = rw (c.move_size-size.ensures, c.wide.ensures) refl

room : (c : After-wide) → move_size * c.loop-q.q + move_size ≤ move_size * c.args.m
room c = let m : move_size * (c.loop-q.q + 1) ≤ move_size * c.args.m = mul-le-mul_left move_size (omega arith) in omega arith

pub overflow_add-at : goal.overflow_add-at
overflow_add-at c = let s = (goal.at.overflow_add-at c).After-wide in omega (arith, place s, room s)

pub loop-q-preserved : goal.loop-q-preserved
loop-q-preserved c =
    let l = c.loop-q.invariant in
    let e = c.put_move.ensures in (
      stored-length _ _ _ _ e ∙ l.0,
      moves_to_more _ _ _ _ _ _ _ c.loop-q.q _ _ _ l.1 (place (goal.at.loop-q-preserved c).After-wide) c.load-i.ensures c.load-s.ensures e,
      l.2,
    )
