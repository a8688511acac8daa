-- `marker_houses::house_place` meets its contract: the line of the number is there or not, and is the motif or not. Assumes nothing.
use mathlib.Core.Path.{◌∙◌}
use Rattle.marker_houses.proofs.Places.{at-line, no_line, line_told}
use Rattle.marker_houses.proofs.house_place.Goals as goal

pub returns-in_err-at : goal.returns-in_err-at
returns-in_err-at c = c.from_residual.ensures ∙ no_line _ _ _ _ c.line_from.ensures.0 c.in_err-at.was

pub returns : goal.returns
returns c =
    let w = at-line _ _ _ _ c.line_from.ensures.0 c.in_ok-at.was in
    c.then_some.ensures ∙ line_told _ _ _ _ _ w.0 w.1 c.line_end-end.ensures.0 _ c.same_bytes.ensures
