-- `step5_queue::push_all` meets its contract: the small groups are taken in the order of their names, and all together give the queue. The measure is
-- how many are left. Assumes nothing.
use Rattle.std.specs.Prelude.{sum}
use Rattle.step1_rows.specs.Rows.{row, NAME}
use Rattle.slots.specs.Slots.{view}
use Rattle.step2_bits.specs.Sets.{flags}
use Rattle.step5_queue.proofs.Passing.{Ahead}
use Rattle.step5_queue.proofs.push_all.Given as goal

abbrev pub invariant-loop-s : goal.invariant-loop-s
invariant-loop-s l = Ahead (view l.n (row l.initial.a NAME)) (flags l.initial.small.words) l.initial.a l.a (flags l.small.words) l.k

abbrev pub decreases-loop-s : goal.decreases-loop-s
decreases-loop-s l = sum (flags l.small.words)
