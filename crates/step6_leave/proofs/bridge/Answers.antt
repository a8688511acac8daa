-- `bridge` meets its contract: the position before gets the distance that `next` gives. Assumes nothing.
use Rattle.step6_leave.proofs.Stores.{joined-most}
use Rattle.step6_leave.proofs.bridge.Goals as goal

pub change-requires : goal.change-requires
change-requires c =
    let s = c.requires in
    (s.0, s.1, s.2, s.3, rw (c.next.ensures, c.load-e.ensures) (joined-most _ _ _ s.4))
