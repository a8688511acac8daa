-- `call_blocks::index_lines` meets its contract. The loop's invariant: a block begins at k, and the entries of the periods below it are written; the measure is
-- how many lines are left. Assumes nothing.
use Prim.Native.Nat.{◌-◌, ◌≤◌}
use mathlib.Core.Path.{◌≡◌}
use Rattle.words.specs.Rows.{rows}
use Rattle.words.specs.Lists.{line_size}
use Rattle.row_cells.specs.Listing.{Listing}
use Rattle.words_index.specs.Index.{entry_size}
use Rattle.words_index.proofs.Ordered.{Ordered}
use Rattle.words_index.proofs.Blocks.{Opens}
use Rattle.call_blocks.proofs.Indexing.{below}
use Rattle.call_blocks.proofs.index_lines.Given as goal

abbrev pub invariant-loop-k : goal.invariant-loop-k
invariant-loop-k l =
    (l.count ≡ rows line_size l.list) × (l.k ≤ l.count) × Ordered l.list × Opens l.list l.k × Listing entry_size l.initial.index (below l.list l.k) l.m l.index

abbrev pub decreases-loop-k : goal.decreases-loop-k
decreases-loop-k l = l.count - l.k
