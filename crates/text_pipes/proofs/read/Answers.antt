-- `text_pipes::read` meets its contract: the call on standard input is the one that it speaks of; none is made on another descriptor.
use Rattle.std.proofs.Common.{rules}
use Rattle.text_pipes.specs.Accounts.{Gave}
use Rattle.text_pipes.proofs.read.Goals as goal

pub returns-in-0-clause-asked : goal.returns-in-0-clause-asked
unfolding Gave
returns-in-0-clause-asked c = search rules

pub returns-in_default-clause-asked : goal.returns-in_default-clause-asked
unfolding Gave
returns-in_default-clause-asked c = search rules
