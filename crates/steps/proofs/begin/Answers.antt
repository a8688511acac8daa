-- `steps::begin` meets its contract: what `fresh` leaves are the groups of width 1, and each position waits for its distance. Assumes nothing.
use Rattle.step3_lists.proofs.Changing.{waiting_listed}
use Rattle.steps.proofs.Begins.{began_stands}
use Rattle.steps.proofs.begin.Goals as goal

pub returns : goal.returns
returns c =
    let P = c.requires in
    let B = c.fresh.ensures in
    (began_stands _ _ _ _ P.0 P.1 B, waiting_listed _ B.lists)
