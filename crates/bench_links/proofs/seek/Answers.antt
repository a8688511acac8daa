-- `bench_links::seek` meets its contract: what is found behind position i. Assumes nothing.
use mathlib.Core.Path.{◌∙◌}
use Rattle.bench_links.proofs.Nexts.{sought}
use Rattle.bench_links.proofs.seek.Goals as goal

pub returns-in_err-k : goal.returns-in_err-k
returns-in_err-k c = c.from_residual.ensures ∙ rw c.in_err-k.was at (sought _ _ _ c.requires c.place.ensures)

pub returns : goal.returns
returns c = rw c.in_ok-k.was at (sought _ _ _ c.requires c.place.ensures)
