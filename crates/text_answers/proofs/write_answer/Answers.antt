-- `text_answers::write_answer` meets its contract: the list is put, or the refusal. Assumes nothing.
use native.Mathlib.Omega.{arith}
use Rattle.text_puts.proofs.Putting.{puts_front}
use Rattle.text_answers.proofs.Said.{success_text, success-lines, success-room, refusal_text, refusal-room}
use Rattle.text_answers.proofs.write_answer.Goals as goal

pub put_list-requires : goal.put_list-requires
put_list-requires c =
    let p = rw c.in-Ok.is at c.requires in
    (success-lines _ p, success-room _ p c.args.len c.ranges.len.fits (omega arith) (λ i. (c.type_inv.list i).fits))

pub returns-in-Ok : goal.returns-in-Ok
returns-in-Ok c = rw (c.in-Ok.is, success_text c.in-Ok.count c.args.len c.args.list.now) (puts_front c.put_list.ensures)

pub put_refused-requires : goal.put_refused-requires
put_refused-requires c = refusal-room _ c.refused-a.ensures (rw c.in-Err.is at c.requires) (omega arith) (omega arith)

pub returns-in-Err : goal.returns-in-Err
returns-in-Err c = rw (c.in-Err.is, refusal_text _ c.refused-a.ensures c.args.len c.args.list.now) (puts_front c.put_refused.ensures)
