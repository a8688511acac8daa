-- `text_puts::put_word` meets its contract: the word is copied to its place. Assumes nothing.
use mathlib.Core.Path.{refl}
use native.Mathlib.Omega.{arith}
use Rattle.std.proofs.lemmas.Slice.{put_mid-paste}
use Rattle.text_puts.proofs.Putting.{puts_pasted}
use Rattle.text_puts.proofs.put_word.Goals as goal

pub returns : goal.returns
returns c = puts_pasted (put_mid-paste _ _ _ _ _ _ c.copy_from_slice.ensures.after (omega arith) refl) refl
