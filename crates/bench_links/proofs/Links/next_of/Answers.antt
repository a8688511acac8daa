-- `bench_links::Links::next_of` meets its contract: it is looked up where the position has a place, and searched for where it has none. Assumes nothing.
use mathlib.Core.Path.{ap, ◌∙◌}
use Rattle.words.specs.Reads.{at}
use Rattle.bench_links.specs.Links.{or_none}
use Rattle.bench_links.proofs.Nexts.{next-at}
use Rattle.bench_links.proofs.Links.next_of.Goals as goal

pub returns-then-i-self : goal.returns-then-i-self
returns-then-i-self c =
    c.position.ensures ∙ ap or_none (next-at c.args.self.now.table.now c.args.self.now.after.now c.args.i c.args.self.now.nexts c.requires.0 c.if-i-self.true)

pub returns : goal.returns
unfolding at
returns c = c.seek.ensures ∙ rw c.wide.ensures
