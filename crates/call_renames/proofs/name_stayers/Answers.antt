-- `call_renames::name_stayers` meets its contract: if no group loses the position that names it, all names stay. Assumes nothing.
use Rattle.call_renames.proofs.Stayers.{stayed_all}
use Rattle.call_renames.proofs.name_stayers.Goals as goal

pub returns-else-loses_name : goal.returns-else-loses_name
returns-else-loses_name c =
    let p = c.requires in
    stayed_all _ _ _ _ p.0 p.1 _ _ _ p.2 (c.loses_name.ensures c.if-loses_name.false)
