-- `call_widths::list_widths` meets its contract: a look at the lines. Assumes nothing.
use mathlib.Core.Path.{◌∙◌}
use Rattle.call_widths.proofs.Seen.{listing_lines, seen_entries}
use Rattle.call_widths.proofs.list_widths.Goals as goal

pub returns : goal.returns
returns c = let E = c.look_widths.ensures in (listing_lines _ _ _ _ _ E.0, E.1 ∙ seen_entries _ _)
