-- `text_views::put_accord` meets its contract: one line or the other. Assumes nothing.
use Rattle.text_puts.specs.Ascii.{ascii}
use Rattle.text_views.specs.Views.{accord_text}
use Rattle.text_views.proofs.put_accord.Goals as goal

pub put_word-requires : goal.put_word-requires
unfolding accord_text ascii
put_word-requires c = rw c.if-agree.true at c.requires

pub returns-then-agree : goal.returns-then-agree
unfolding accord_text ascii
returns-then-agree c = rw c.if-agree.true c.put_word.ensures

pub put_word-requires-2 : goal.put_word-requires-2
unfolding accord_text ascii
put_word-requires-2 c = rw c.if-agree.false at c.requires

pub returns : goal.returns
unfolding accord_text ascii
returns c = rw c.if-agree.false c.put_word-2.ensures
