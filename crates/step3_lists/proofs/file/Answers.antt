-- `file` meets its contract: its stores are the definition. Assumes nothing.
use mathlib.Core.Path.{refl}
use Rattle.step3_lists.specs.Filed.{filed_at}
use Rattle.step3_lists.proofs.file.Goals as goal

pub returns : goal.returns
unfolding filed_at
returns c = rw (c.store-2.ensures, c.store.ensures, c.load-h.ensures) refl
