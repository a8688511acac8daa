-- `call_logs::log` meets its contract: each return says what document 01 says there. Assumes nothing.
use Rattle.call_logs.proofs.Said.{long_said, narrow_said, moves_said}
use Rattle.read_edges.proofs.Refused.{too_long_handed}
use Rattle.call_logs.proofs.log.Goals as goal

pub returns-in_err-check_length : goal.returns-in_err-check_length
returns-in_err-check_length c = let l = c.in_err-check_length.ensures.err in rw (too_long_handed _ _ _ c.from_residual.ensures.1 l) (long_said _ _ l.0)

pub returns-then-out-needed : goal.returns-then-out-needed
returns-then-out-needed c = let e = c.room-needed.ensures in rw e (narrow_said _ _ c.in_ok-check_length.ensures.ok (rw e at c.if-out-needed.true))

pub returns : goal.returns
returns c =
    moves_said _ _ c.in_ok-check_length.ensures.ok (rw c.room-needed.ensures at c.if-out-needed.false) _ _ c.write_log.ensures
