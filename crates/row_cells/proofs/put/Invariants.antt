-- `row_cells::put` meets its contract. The loop's invariant: the first j numbers of the row are stored. Assumes nothing.
use mathlib.Core.Path.{◌≡◌}
use lib.ListN.{take}
use Rattle.row_cells.specs.Stored.{stored}
use Rattle.row_cells.proofs.put.Given as goal

abbrev pub invariant-loop-j : goal.invariant-loop-j
invariant-loop-j g l = l.out ≡ stored l.initial.out l.from (take l.j l.row)
