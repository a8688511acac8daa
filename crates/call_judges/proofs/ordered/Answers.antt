-- `call_judges::ordered` meets its contract: the order of tuples is the log's. Assumes nothing.
use mathlib.Core.Path.{◌∙◌}
use Rattle.words.specs.Logs.{before}
use Rattle.call_judges.proofs.Tuples.{tuple_before}
use Rattle.call_judges.proofs.ordered.Goals as goal

pub returns : goal.returns
unfolding before
returns c =
    rw (← c.width_of.ensures, ← c.width_of-2.ensures, ← c.name_of.ensures, ← c.name_of-2.ensures, ← c.place_of.ensures, ← c.place_of-2.ensures)
    (c.lt.ensures ∙ tuple_before c.width_of.result c.width_of-2.result c.name_of.result c.name_of-2.result c.place_of.result c.place_of-2.result)
