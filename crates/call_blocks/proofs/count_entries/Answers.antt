-- `call_blocks::count_entries` meets its contract: the entries are counted, and none is written. Assumes nothing.
use mathlib.Core.Path.{sym}
use Rattle.call_blocks.proofs.Indexing.{indexing_counted}
use Rattle.call_blocks.proofs.count_entries.Goals as goal

pub returns : goal.returns
returns c = sym (indexing_counted _ _ _ _ c.index_lines.ensures)
