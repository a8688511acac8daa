-- `call_periods::rows_at` meets its contract. The loop's invariant: the rows of the places before the next start are written, and what the lines ask
-- for is kept; the measure is how many places are to come. Assumes nothing.
use Rattle.step2_bits.specs.Sets.{flags}
use Rattle.call_periods.proofs.Turns.{Ahead, to_come}
use Rattle.call_periods.proofs.rows_at.Given as goal

abbrev pub invariant-loop-next : goal.invariant-loop-next
invariant-loop-next l = Ahead l.dist l.sight l.p l.prior l.initial.out l.k l.out l.count l.next (flags l.starts.words)

abbrev pub decreases-loop-next : goal.decreases-loop-next
decreases-loop-next l = to_come l.next (flags l.starts.words)
