-- `call_renames::loses_name`: the loop's invariant. No entry before q has a position that names its group. Assumes nothing.
use Rattle.call_renames.specs.Split.{Unnamed}
use Rattle.call_renames.proofs.loses_name.Given as goal

abbrev pub invariant-loop-q : goal.invariant-loop-q
invariant-loop-q l = Unnamed l.name l.log l.from l.q
