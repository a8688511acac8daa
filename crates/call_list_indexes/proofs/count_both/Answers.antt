-- `call_list_indexes::count_both` meets its contract: each refusal where its count says so, and else both are written. Assumes nothing.
use mathlib.Core.Path.{refl}
use native.Mathlib.Omega.{arith}
use Rattle.call_list_indexes.proofs.Said.{full_said, index_full_said}
use Rattle.call_list_indexes.proofs.count_both.Goals as goal

pub returns-then-room-lines : goal.returns-then-room-lines
returns-then-room-lines c =
    let w = c in
    let s = w in
    rw c.clear.ensures
    (full_said _ _ _ _ s.requires.0 s.requires.1 _ w.count_widths-t.ensures.0 (omega (arith, c.if-room-lines.true, c.room.ensures)) _ refl)

pub returns-then-entries-needed : goal.returns-then-entries-needed
returns-then-entries-needed c =
    let w = c in
    let s = w in
    index_full_said _ _ _ _ s.requires.0 s.requires.1 _ (omega (arith, c.if-room-lines.false, c.room.ensures, w.count_widths-t.ensures.0)) w.count_widths-t.ensures.1 (omega (arith, c.if-entries-needed.true, c.entries.ensures))
