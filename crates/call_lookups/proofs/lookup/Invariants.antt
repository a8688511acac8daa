-- `call_lookups::lookup` meets its contract. The loop's invariant: the first k entries are of other periods. Assumes nothing.
use mathlib.Core.Path.{◌≡◌}
use lib.Dec.{eqb}
use Rattle.words.specs.Rows.{rows, cell}
use Rattle.words.proofs.Searches.{Missed}
use Rattle.words_index.specs.Index.{entry_size}
use Rattle.call_lookups.proofs.lookup.Given as goal

abbrev pub invariant-loop-k : goal.invariant-loop-k
invariant-loop-k l = (l.whole ≡ rows entry_size l.index) × Missed (λ h. eqb (cell entry_size l.index h 0) l.period) 0 l.k
