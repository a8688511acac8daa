-- `call_list_indexes::list_index` meets its contract: each return says what document 02 says there. Assumes nothing.
use native.Mathlib.Omega.{arith}
use borrow.Author.Rules.{rules}
use Rattle.call_list_indexes.proofs.Said.{long_said, mode_said, room_enough}
use Rattle.read_edges.proofs.Refused.{too_long_handed}
use Rattle.call_list_indexes.proofs.list_index.Goals as goal

pub returns-in_err-check_length : goal.returns-in_err-check_length
returns-in_err-check_length c = let l = c.in_err-check_length.ensures.err in rw (too_long_handed _ _ _ c.from_residual.ensures.1 l) (long_said _ _ _ _ l.0)

pub returns-then-mode-gt1 : goal.returns-then-mode-gt1
returns-then-mode-gt1 c = mode_said _ _ _ _ c.in_ok-check_length.ensures.ok c.if-mode-gt1.true

pub write_both-requires : goal.write_both-requires
write_both-requires c =
    let e = c in
    let t = e in
    (search rules, search rules, room_enough _ _ _ _ t.top_of.ensures (omega (arith, e.if-entries-top_of.false, t.entries.ensures)))
