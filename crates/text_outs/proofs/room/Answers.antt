-- `text_outs::room` meets its contract: the test is that of `next_place`.
use Rattle.std.proofs.Common.{◌∙◌, arith}
use Rattle.text_outs.proofs.Placing.{place_after, place_front}
use Rattle.text_outs.proofs.Telling.{adds_none}
use Rattle.text_outs.proofs.room.Goals as goal

pub returns-then-need-buf : goal.returns-then-need-buf
returns-then-need-buf c = (place_after _ _ _ (omega arith), adds_none _ _)

pub returns : goal.returns
returns c = (c.flush.ensures.0 ∙ place_front _ _ _ (omega arith), c.flush.ensures.1)
