-- `call_renames::replay_width` meets its contract: the passes hand their results on, and the table split by the marks of the block is the next one.
-- Assumes nothing.
use Rattle.call_renames.proofs.Marked.{marks_block}
use Rattle.call_renames.proofs.Movers.{moved-split, moved-left}
use Rattle.call_renames.proofs.Widths.{split_after, split-groups}
use Rattle.call_renames.proofs.replay_width.Goals as goal

pub name_stayers-requires : goal.name_stayers-requires
name_stayers-requires c =
    let p = c.requires in
    let e = c.mark_block-to.ensures in
    (p.0, p.1.lead_clean, marks_block _ _ p.2 _ _ p.3 _ e.1 _ e.0)

pub name_movers-requires : goal.name_movers-requires
name_movers-requires c =
    let p = c.requires in
    let e = c.mark_block-to.ensures in
    (marks_block _ _ p.2 _ _ p.3 _ e.1 _ e.0, p.1.part-long, (_, c.name_stayers.ensures))

pub clean-requires : goal.clean-requires
clean-requires c =
    let p = c.requires in
    let e = c.mark_block-to.ensures in
    moved-left _ _ _ _ _ (marks_block _ _ p.2 _ _ p.3 _ e.1 _ e.0) _ _ _ _ (c.name_movers.ensures _ c.name_stayers.ensures)

pub returns : goal.returns
returns c =
    let p = c.requires in
    let e = c.mark_block-to.ensures in
    let M = c.name_movers.ensures _ c.name_stayers.ensures in
    let t = moved-split _ _ _ _ _ (marks_block _ _ p.2 _ _ p.3 _ e.1 _ e.0) _ _ _ _ M in (
      split-groups _ _ _ _ p.0.few M.name-long t,
      record { mark_clean = c.clean.ensures.0; lead_clean = c.clean.ensures.1; part-long = M.part-long },
      split_after _ _ _ _ _ p.0 e.0 _ t,
      e.1,
    )
