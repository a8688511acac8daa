-- `take_out` meets its contract: its stores leave the links as they are, and `leave` does the rest. Assumes nothing.
use mathlib.Core.Path.{refl}
use Rattle.step6_leave.proofs.Gone.{leavable_put}
use Rattle.step6_leave.proofs.take_out.Goals as goal

pub leave-requires : goal.leave-requires
leave-requires c =
    let s = c.requires in
    rw (c.store-2.ensures, c.store.ensures)
    (leavable_put _ _ _ _ _ _ refl refl refl (leavable_put _ _ _ _ _ _ refl refl refl s.0))
