-- `text_groups::is_alone` meets its contract: the group of the position that is read has one member. Assumes nothing.
use Rattle.text_groups.proofs.Cells.{alone_is}
use Rattle.text_groups.proofs.is_alone.Goals as goal

pub returns : goal.returns
returns c =
    alone_is c.args.links.now.table.now c.args.i c.wide.ensures c.few_of.result c.few_of.ensures
