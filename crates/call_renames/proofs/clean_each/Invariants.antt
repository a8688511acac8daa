-- `call_renames::clean_each`: the loop's invariant. Only the entries from q on have marks and leaders left. Assumes nothing.
use Rattle.call_renames.specs.Split.{Left}
use Rattle.call_renames.proofs.clean_each.Given as goal

abbrev pub invariant-loop-q : goal.invariant-loop-q
invariant-loop-q l = Left l.log l.q l.to l.name l.part l.mark l.lead
