-- `call_runs::runs` meets its contract: each return says what document 02 says there. Assumes nothing.
use Rattle.call_runs.proofs.Said.{long_said, short_said, runs_said}
use Rattle.read_edges.proofs.Refused.{too_long_handed}
use Rattle.call_runs.proofs.runs.Goals as goal

pub returns-in_err-check_length : goal.returns-in_err-check_length
returns-in_err-check_length c = let l = c.in_err-check_length.ensures.err in rw (too_long_handed _ _ _ c.from_residual.ensures.1 l) (long_said _ _ l.0)

pub returns-then-room-count : goal.returns-then-room-count
returns-then-room-count c =
    let l = c.if-room-count.true in
    rw c.clear.ensures (short_said _ _ c.in_ok-check_length.ensures.ok _ _ c.run_widths-count.ensures (rw c.room.ensures at l))

pub returns : goal.returns
returns c =
    let l = c.if-room-count.false in
    runs_said _ _ c.in_ok-check_length.ensures.ok _ _ c.run_widths-count.ensures (rw c.room.ensures at l)
