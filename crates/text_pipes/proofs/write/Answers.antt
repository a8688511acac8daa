-- `text_pipes::write` meets its contract: the call on standard output or error is the one that it speaks of; none is made on another descriptor.
use Rattle.std.proofs.Common.{rules}
use Rattle.text_pipes.specs.Accounts.{Wrote}
use Rattle.text_pipes.proofs.write.Goals as goal

pub returns-in-1-clause-took : goal.returns-in-1-clause-took
unfolding Wrote
returns-in-1-clause-took c = search rules

pub returns-in-2-clause-took : goal.returns-in-2-clause-took
unfolding Wrote
returns-in-2-clause-took c = search rules

pub returns-in_default-clause-took : goal.returns-in_default-clause-took
unfolding Wrote
returns-in_default-clause-took c = search rules
