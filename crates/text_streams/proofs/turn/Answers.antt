-- `text_streams::turn` meets its contract: the next part is taken, and a read call is made only where no newline ended it.
use borrow.Author.Rules.{rules}
use Rattle.text_streams.proofs.Turns.{turned_cut, turned_spent}
use Rattle.text_streams.proofs.turn.Goals as goal

pub returns-in-Some : goal.returns-in-Some
returns-in-Some c = turned_cut _ _ _ _ c.requires.0 c.take_part-p.ensures (search rules)

pub returns : goal.returns
returns c =
    turned_spent _ _ _ _ c.requires.0 c.take_part-p.ensures (search rules) (search rules) (search rules) c.fill.ensures
