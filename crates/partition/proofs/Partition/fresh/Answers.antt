-- `Partition::fresh` meets its contract: the rows that are kept stand for the read at width 1. Assumes nothing.
use mathlib.Core.Path.{refl}
use borrow.Author.Rules.{rules}
use Rattle.steps.proofs.Begins.{begin_asks}
use Rattle.partition.proofs.Rows.{kept_of}
use Rattle.partition.proofs.Partition.fresh.Goals as goal

pub returns : goal.returns
returns c =
    let S = c.begin.ensures in
    kept_of _ _ _ _ _ c.kept.ensures S.0.held.long _ _ refl S.0 S.1

pub begin-requires : goal.begin-requires
begin-requires c = (search rules, search rules, begin_asks, c.none-small.ensures)
