-- `steps::move_on` meets its contract: each phase ensures what the next one asks. Assumes nothing.
use Rattle.steps.proofs.Phases.{moved_turnable, turned_refined, turned_waits}
use Rattle.steps.proofs.move_on.Goals as goal

pub group_all-requires : goal.group_all-requires
group_all-requires c =
    let D = c.requires in
    (_, _, moved_turnable _ _ _ _ _ D _ _ _ c.move_all-made.ensures)

pub part_all-requires : goal.part_all-requires
part_all-requires c =
    let D = c.requires in
    let M = c.move_all-made.ensures in
    (D.empty, (_, _, (c.group_all.ensures _ _ (moved_turnable _ _ _ _ _ D _ _ _ M)).0))

pub returns : goal.returns
returns c =
    let D = c.requires in
    let M = c.move_all-made.ensures in
    let G = c.group_all.ensures _ _ (moved_turnable _ _ _ _ _ D _ _ _ M) in
    let T = c.part_all.ensures _ _ G.0 in
    (turned_refined _ _ _ _ _ D _ _ _ M _ _ _ G.1 G.0 T, turned_waits _ _ _ _ _ D _ _ _ M _ _ _ G.1 G.0 T)
