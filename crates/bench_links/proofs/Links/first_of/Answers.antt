-- `bench_links::Links::first_of` meets its contract: it is looked up where the name has a place, and searched for where it has none. Assumes nothing.
use mathlib.Core.Path.{ap, ◌∙◌}
use Rattle.bench_links.specs.Links.{or_none}
use Rattle.bench_links.proofs.Nexts.{first-at}
use Rattle.bench_links.proofs.Links.first_of.Goals as goal

pub returns-then-inside : goal.returns-then-inside
returns-then-inside c =
    let h = c.inside.ensures c.if-inside.true in
    c.position.ensures ∙ ap or_none (first-at c.args.self.now.table.now c.args.self.now.head.now c.args.s c.args.self.now.heads h.0 h.1)
