-- `text_outs::flush` meets its contract: write calls take what is collected.
use Rattle.std.proofs.Common.{refl}
use borrow.Author.Rules.{rules}
use Rattle.text_outs.proofs.Telling.{adds_written}
use Rattle.text_outs.proofs.flush.Goals as goal

pub returns-in-Ok : goal.returns-in-Ok
returns-in-Ok c = (refl, adds_written _ _ (search rules) c.in-Ok.ensures.handed)
