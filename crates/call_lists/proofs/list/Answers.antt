-- `call_lists::list` meets its contract: each return says what document 01 says there. Assumes nothing.
use Rattle.call_lists.proofs.Said.{long_said, mode_said, short_said, lines_said}
use Rattle.read_edges.proofs.Refused.{too_long_handed}
use Rattle.call_lists.proofs.list.Goals as goal

pub returns-in_err-check_length : goal.returns-in_err-check_length
returns-in_err-check_length c = let l = c.in_err-check_length.ensures.err in rw (too_long_handed _ _ _ c.from_residual.ensures.1 l) (long_said _ _ _ l.0)

pub returns-then-mode-gt1 : goal.returns-then-mode-gt1
returns-then-mode-gt1 c = mode_said _ _ _ c.in_ok-check_length.ensures.ok c.if-mode-gt1.true

pub returns-then-room-count : goal.returns-then-room-count
returns-then-room-count c =
    let l = c.if-room-count.true in
    rw c.clear.ensures (short_said _ _ _ c.in_ok-check_length.ensures.ok c.if-mode-gt1.false _ _ c.list_widths-count.ensures.0 (rw c.room.ensures at l))

pub returns : goal.returns
returns c =
    let l = c.if-room-count.false in
    lines_said _ _ _ c.in_ok-check_length.ensures.ok c.if-mode-gt1.false _ _ c.list_widths-count.ensures.0 (rw c.room.ensures at l)
