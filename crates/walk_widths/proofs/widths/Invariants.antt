-- `widths` meets its contract: the partition stays good from width to width. Assumes nothing.
use Rattle.partition.specs.Stand.{Good}
use Rattle.walk_widths.proofs.widths.Given as goal

abbrev pub invariant-loop : goal.invariant-loop
invariant-loop g l = Good l.p
