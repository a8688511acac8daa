-- `row_matches::pass_line` meets its contract: the line stands at its place, or they differ. Assumes nothing.
use mathlib.Core.Path.{◌≡◌, sym, ◌∙◌}
use native.Mathlib.Omega.{arith}
use Rattle.words.proofs.LineLayout.{line_few}
use Rattle.row_matches.specs.Matching.{reached}
use Rattle.row_matches.proofs.Matching.{line_on, line-off}
use Rattle.row_matches.proofs.pass_line.Goals.{After-is_line, in-Ok, in-Err}
use Rattle.row_matches.proofs.pass_line.Goals as goal

-- the place of either
place : (c : After-is_line) → c.match-m.at ≡ reached c.args.m
place c = elim c.match-m.branch [ in-Ok w ↦ rw w.in-Ok.is w.at-is | in-Err w ↦ rw w.in-Err.is w.at-is ]

-- the match goes by the argument
matched : (c : After-is_line) → c.match-m.m ≡ c.args.m
matched c = elim c.match-m.branch [ in-Ok w ↦ rw w.in-Ok.is w.m-is | in-Err w ↦ rw w.in-Err.is w.m-is ]

pub returns-then-not-is_line : goal.returns-then-not-is_line
returns-then-not-is_line c =
    let p = place (goal.at.returns-then-not-is_line c).After-is_line in
    rw p (line-off _ _ _ _ _ (rw p at (sym c.is_line.ensures ∙ c.if-not-is_line.true)))

pub overflow_add-next : goal.overflow_add-next
overflow_add-next c = omega (arith, place (goal.at.overflow_add-next c).After-is_line, c.requires, c.line_size.ensures, line_few)

pub returns-in-Ok-m : goal.returns-in-Ok-m
returns-in-Ok-m c =
    let a = (goal.at.returns-in-Ok-m c).After-is_line in
    let p = place a in
    let q = sym (matched a) ∙ c.in-Ok-m.is in
    rw (p, q, c.line_size.ensures) (line_on _ _ _ _ _ (rw (p, q) at (sym c.is_line.ensures ∙ c.if-not-is_line.false)))

pub returns-in-Err-m : goal.returns-in-Err-m
returns-in-Err-m c =
    let a = (goal.at.returns-in-Err-m c).After-is_line in
    let p = place a in
    let q = sym (matched a) ∙ c.in-Err-m.is in
    rw (p, q, c.line_size.ensures) (line_on _ _ _ _ _ (rw (p, q) at (sym c.is_line.ensures ∙ c.if-not-is_line.false)))
