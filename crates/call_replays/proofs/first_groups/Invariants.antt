-- `call_replays::first_groups` meets its contract. The loop's invariant: the first k positions have their names. Assumes nothing.
use Rattle.call_replays.specs.Named.{Named}
use Rattle.call_replays.proofs.first_groups.Given as goal

abbrev pub invariant-loop-k : goal.invariant-loop-k
invariant-loop-k l = Named l.read l.name l.seen l.k
