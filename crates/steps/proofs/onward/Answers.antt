-- `steps::onward` meets its contract: past the end from the last width, past the end once nothing moves, and else by one width. Assumes nothing.
use native.Mathlib.Numerals.{add-one}
use native.Mathlib.Omega.{arith}
use borrow.Author.Rules.{rules}
use Rattle.steps.proofs.Walks.{onward_stops, onward_goes}
use Rattle.steps.proofs.onward.Goals as goal

pub returns-then-moves-eq0 : goal.returns-then-moves-eq0
returns-then-moves-eq0 c =
    let A = c.advance-moves.ensures in
    let P = c.requires in
    let e = c.if-p-end.false in
    (A.0.refined.held, λ l. absurd (omega arith), search rules, search rules, λ x S. onward_stops _ _ _ _ _ _ S P.2 (omega (arith, P.3, e)) _ _ _ A.0 c.if-moves-eq0.true)

pub returns : goal.returns
returns c =
    let A = c.advance-moves.ensures in
    let P = c.requires in
    let e = c.if-p-end.false in
    (A.0.refined.held, λ l. rw (add-one _) A.1, search rules, search rules, λ x S. onward_goes _ _ _ _ _ _ S P.2 (omega (arith, P.3, e)) _ _ _ A.0)
