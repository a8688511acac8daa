-- `leave` meets its contract: the group is closed from before, then from after. Assumes nothing.
use Rattle.step6_leave.proofs.Gone.{closed_dist, gone}
use Rattle.step6_leave.proofs.leave.Goals as goal

pub detach-requires : goal.detach-requires
detach-requires c =
    let A = c.requires in
    let C = c.close.ensures in
    (C.long, A.low, rw c.load-d.ensures A.ahead, closed_dist _ _ _ _ _ _ _ A c.load-p.ensures c.load-d.ensures C)

pub returns : goal.returns
returns c =
    gone _ _ _ _ _ _ _ c.requires c.load-p.ensures c.load-d.ensures c.close.ensures _ c.detach.ensures
