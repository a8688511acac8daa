-- `text_moves::put_end` meets its contract: a newline, where a line ends. Assumes nothing.
use mathlib.Core.Path.{sym, ◌∙◌}
use Rattle.text_puts.proofs.Putting.{puts_none}
use Rattle.text_puts.specs.Ascii.{ascii}
use Rattle.text_moves.proofs.Shapes.{end_last, end_earlier}
use Rattle.text_moves.proofs.put_end.Goals as goal

pub put_word-requires : goal.put_word-requires
unfolding ascii
put_word-requires c =
    rw (end_last c.args.moves.now c.args.k (sym c.is_last.ensures ∙ c.if-is_last.true)) at c.requires.1

pub returns-then-is_last : goal.returns-then-is_last
unfolding ascii
returns-then-is_last c =
    rw (end_last c.args.moves.now c.args.k (sym c.is_last.ensures ∙ c.if-is_last.true)) c.put_word.ensures

pub returns : goal.returns
returns c =
    rw (end_earlier c.args.moves.now c.args.k (sym c.is_last.ensures ∙ c.if-is_last.false)) (puts_none c.requires.1)
