-- `call_names::joins` meets its contract: the tests that the code makes are the definition's. Assumes nothing.
use borrow.Author.Tests.{lt-ltb, le-ltb}
use Rattle.call_names.specs.Heads.{joined}
use Rattle.call_names.proofs.joins.Goals as goal

pub returns-then-f-gt0 : goal.returns-then-f-gt0
unfolding joined
returns-then-f-gt0 c = rw (lt-ltb _ _ c.if-f-gt0.true, ← c.load.ensures, ← c.load-then-f-gt0.ensures)

pub returns-else-f-gt0 : goal.returns-else-f-gt0
unfolding joined
returns-else-f-gt0 c = rw (le-ltb _ _ c.if-f-gt0.false)
