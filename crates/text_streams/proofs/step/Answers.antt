-- `text_streams::step` meets its contract: the line that the turn found is answered.
use Rattle.std.proofs.Common.{arith}
use borrow.Author.Rules.{rules}
use Rattle.text_streams.proofs.Advancing.{advances_found, advances_none}
use Rattle.text_streams.proofs.step.Goals as goal

pub returns-in-Some-clause-advances : goal.returns-in-Some-clause-advances
returns-in-Some-clause-advances g c =
    let a = c.answer-out.ensures.collects in
    advances_found _ _ _ _ _ c.requires.0 c.turn-t.ensures c.in-Some.is (omega (arith, a.inside, c.answer-out.auto.buf)) a.adds

pub returns-clause-advances : goal.returns-clause-advances
returns-clause-advances g c = advances_none _ _ _ _ _ c.requires.0 c.turn-t.ensures (search rules)
