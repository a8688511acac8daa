-- `first_move` meets its contract: the turn for the first position that leaves its group. Assumes nothing.
use mathlib.Core.Path.{refl}
use native.Mathlib.Omega.{arith}
use Rattle.step6_leave.proofs.Gone.{leavable_put}
use Rattle.step7_moves.proofs.Turns.{turn_place, turn-room, turn-named, first_asks, turn-first}
use Rattle.step7_moves.proofs.first_move.Goals as goal

pub overflow_add-g : goal.overflow_add-g
overflow_add-g c = omega (arith, (turn-room c.requires.0.4).1)

pub overflow_add-h : goal.overflow_add-h
overflow_add-h c = omega (arith, (turn-room c.requires.0.4).0)

pub store-requires : goal.store-requires
store-requires c = let T = c.requires.0.4 in (omega arith, omega arith, omega (arith, (turn-room T).1))

pub store-requires-2 : goal.store-requires-2
store-requires-2 c =
    let s = c.requires in
    let k = turn-named s.0.4 s.1 in
    (omega arith, k.0, k.1)

pub take_out-requires : goal.take_out-requires
take_out-requires c =
    let s = c.requires in (
      rw (c.store-2.ensures, c.store.ensures)
          (leavable_put _ _ _ _ _ _ refl refl refl
          (leavable_put _ _ _ _ _ _ refl refl refl (first_asks s.0.4 s.1 s.2 (rw s.3 at s.4)))),
      omega (arith, s.4),
    )

pub begin_part-requires : goal.begin_part-requires
begin_part-requires c =
    let s = c.requires in
    let T = s.0.4 in
    let k = turn-named T s.1 in
    let i = turn_place T in
    (omega arith, omega (arith, (turn-room T).0), k.0, k.1, i.0, omega (arith, i.1, T.start.few))

pub returns : goal.returns
returns c n m q o T =
    let s = c.requires in
    rw c.begin_part.ensures
    (turn-first T s.1 s.2 (rw s.3 at s.4) _ s.3 (rw (c.store-2.ensures, c.store.ensures) at c.take_out.ensures))
