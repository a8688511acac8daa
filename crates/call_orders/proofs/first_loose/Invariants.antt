-- `call_orders::first_loose` meets its contract. The loop's invariant: the first k lines are in their places. Assumes nothing.
use mathlib.Core.Path.{◌≡◌}
use mathlib.Core.Bool.{not}
use Rattle.words.specs.Rows.{rows}
use Rattle.words.specs.Lists.{line_size}
use Rattle.words.proofs.Searches.{Missed}
use Rattle.words_index.specs.Index.{placed}
use Rattle.call_orders.proofs.first_loose.Given as goal

abbrev pub invariant-loop-k : goal.invariant-loop-k
invariant-loop-k l = (l.whole ≡ rows line_size l.list) × Missed (λ h. not (placed l.list h)) 0 l.k
