-- `next_move` meets its contract: the turn for a position whose group has a tail, by the names of their right neighbours. Assumes nothing.
use mathlib.Core.Path.{sym, ◌∙◌}
use native.Mathlib.Omega.{arith}
use Rattle.step7_moves.proofs.Turns.{turn_place, turn-room, turn-named, turn_end, later_asks, later_some, turn_begin, turn_asks, turn_join}
use Rattle.step7_moves.proofs.next_move.Goals as goal

pub take_out-requires : goal.take_out-requires
take_out-requires c =
    let s = c.requires in
    let l = rw s.2 at s.3 in
    (later_asks s.0.4 s.1 l, omega (arith, s.4, later_some s.0.4 s.1 l))

pub overflow_add-t : goal.overflow_add-t
overflow_add-t c = let s = c.requires in omega (arith, s.2, turn_end s.0.4 s.1)

pub load-requires : goal.load-requires
load-requires c = let s = c.requires in (omega arith, omega arith, omega (arith, s.2, turn_end s.0.4 s.1))

pub overflow_add-i : goal.overflow_add-i
overflow_add-i c = let T = c.requires.0.4 in omega (arith, (turn_place T).1, T.start.few)

pub load-requires-2 : goal.load-requires-2
load-requires-2 c = let T = c.requires.0.4 in (omega arith, omega arith, omega (arith, (turn_place T).1, T.start.few))

pub join-requires : goal.join-requires
join-requires c =
    let s = c.requires in
    turn_asks s.0.4 s.1 (rw s.2 at s.3) _ _ s.2 s.4 c.take_out.ensures (sym c.load.ensures ∙ c.if-load.true ∙ c.load-2.ensures)

pub returns-then-load : goal.returns-then-load
returns-then-load c n m q o T =
    let s = c.requires in
    turn_join T s.1 (rw s.2 at s.3) _ _ s.2 s.4 c.take_out.ensures
    (sym c.load.ensures ∙ c.if-load.true ∙ c.load-2.ensures) c.join.ensures

pub overflow_add-h : goal.overflow_add-h
overflow_add-h c = omega (arith, (turn-room c.requires.0.4).0)

pub begin_part-requires : goal.begin_part-requires
begin_part-requires c =
    let s = c.requires in
    let T = s.0.4 in
    let k = turn-named T s.1 in
    let i = turn_place T in
    (omega arith, omega (arith, (turn-room T).0), k.0, k.1, i.0, omega (arith, i.1, T.start.few))

pub returns : goal.returns
returns c n m q o T =
    let s = c.requires in
    rw c.begin_part.ensures
    (turn_begin T s.1 (rw s.2 at s.3) _ _ s.2 s.4 c.take_out.ensures
    (λ e. c.if-load.false (c.load.ensures ∙ e ∙ sym c.load-2.ensures)))
