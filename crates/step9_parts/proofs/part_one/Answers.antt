-- `step9_parts::part_one` meets its contract: the part is weighed, its size is stored, and its positions are named. Assumes nothing.
use Rattle.step9_parts.proofs.Weighing.{turn-walk, turn-done}
use Rattle.step9_parts.proofs.part_one.Goals as goal

pub rename-requires : goal.rename-requires
rename-requires c = turn-walk _ _ _ _ _ _ c.requires.long c.weigh.ensures.0 c.store.ensures c.requires.walk

pub returns : goal.returns
returns c =
    let w = c.weigh.ensures in
    let n = c.rename.ensures in
    turn-done _ _ _ _ _ _ c.requires.long w.0 c.store.ensures c.load-k.ensures w.1 c.load-y.ensures n.0 n.1 n.2
