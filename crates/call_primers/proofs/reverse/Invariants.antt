-- `call_primers::reverse` meets its contract. The loop's invariant: the first k letters of the reverse complement are stored. Assumes nothing.
use mathlib.Core.Path.{◌≡◌}
use lib.ListN.{take}
use Rattle.words_primers.specs.Primers.{reverse_complement}
use Rattle.row_cells.specs.Stored.{stored}
use Rattle.call_primers.proofs.reverse.Given as goal

abbrev pub invariant-loop-k : goal.invariant-loop-k
invariant-loop-k l = l.out ≡ stored l.initial.out 0 (take l.k (reverse_complement l.primer))
