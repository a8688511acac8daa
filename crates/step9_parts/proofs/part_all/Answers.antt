-- `step9_parts::part_all` meets its contract. The loop's invariant: the first q parts had their turn. Assumes nothing.
use native.Mathlib.Omega.{arith}
use Rattle.step9_parts.proofs.Turning.{turning_start, turning_due, turning_step, turning_end}
use Rattle.step9_parts.proofs.part_all.Goals as goal

pub loop-q-init : goal.loop-q-init
loop-q-init c = turning_start c.requires.1.2.long c.requires.0

pub part_one-requires : goal.part_one-requires
part_one-requires c = turning_due c.loop-q-test.true c.loop-q.invariant c.load-c.ensures c.requires.1.2

pub loop-q-preserved : goal.loop-q-preserved
loop-q-preserved c = turning_step c.loop-q-test.true c.loop-q.invariant c.load-c.ensures c.part_one.ensures

pub returns : goal.returns
returns c t S R = turning_end (omega arith) c.loop-q.invariant R
