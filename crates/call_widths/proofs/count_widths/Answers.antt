-- `call_widths::count_widths` meets its contract: the lines are counted, and none is written. Assumes nothing.
use mathlib.Core.Path.{sym}
use Rattle.words.specs.Lists.{line_count}
use Rattle.words.proofs.LineLayout.{line-some}
use Rattle.row_cells.proofs.Listed.{listing_rows}
use Rattle.call_widths.proofs.count_widths.Goals as goal

pub returns : goal.returns
unfolding line_count
returns c = let E = c.list_widths.ensures in (sym (listing_rows _ _ _ _ _ line-some E.0), E.1)
