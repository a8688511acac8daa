-- `step8_groups::rename` meets its contract. The loop's invariant, for each table that it may be asked of: the group's positions up to j hold h, and d
-- is the distance ahead. The measure is what is left of 1000. Assumes nothing.
use Prim.Native.Nat.{◌-◌}
use Rattle.step8_groups.specs.Sweep.{SweepingRows}
use Rattle.step8_groups.proofs.rename.Given as goal

abbrev pub invariant-loop-d : goal.invariant-loop-d
invariant-loop-d l = SweepingRows l.initial.a l.a l.h l.j l.d

abbrev pub decreases-loop-d : goal.decreases-loop-d
decreases-loop-d l = 1000 - l.j
