-- `steps::advance` meets its contract: the queue of the width is ready to be moved, and what its moves make is the next width. Assumes nothing.
use Rattle.steps.proofs.Phases.{held_queued, queued_advanced}
use Rattle.steps.proofs.advance.Goals as goal

pub move_on-requires : goal.move_on-requires
move_on-requires c =
    let H = c.requires in
    let P = c.push_all-m.ensures in
    held_queued _ _ _ H.0 _ H.1 _ _ _ P.0 P.1 P.2 P.3 P.4

pub returns : goal.returns
returns c =
    let H = c.requires in
    let P = c.push_all-m.ensures in
    let R = c.move_on.ensures in
    (queued_advanced _ _ _ H.0 _ H.1 _ _ _ P.0 P.1 P.2 P.3 P.4 _ _ R.0, R.1)
