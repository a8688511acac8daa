-- `text_lines::keep` meets its contract: the part of the buffer from the line's end on takes the front of the part. Assumes nothing.
use native.Mathlib.Omega.{arith}
use Rattle.text_lines.proofs.Keeping.{kept_is}
use Rattle.text_lines.proofs.keep.Goals as goal

pub returns : goal.returns
returns c = rw c.copy_from_slice.ensures.after (kept_is _ _ _ _ _ _ c.min-at.ensures c.min-n.ensures (omega arith))
