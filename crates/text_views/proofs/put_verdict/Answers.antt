-- `text_views::put_verdict` meets its contract: one line or the other, by the width. Assumes nothing.
use Rattle.text_puts.specs.Ascii.{ascii}
use Rattle.text_puts.proofs.Putting.{room-left, puts_room, puts_more}
use Rattle.text_views.proofs.Shapes.{verdict-agree, verdict_differ}
use Rattle.text_views.proofs.put_verdict.Goals as goal

pub put_word-requires : goal.put_word-requires
unfolding ascii
put_word-requires c = rw (verdict-agree _ c.if-agree.true) at c.requires

pub returns-then-agree : goal.returns-then-agree
unfolding ascii
returns-then-agree c = rw (verdict-agree _ c.if-agree.true) c.put_word.ensures

pub put_word-next-requires : goal.put_word-next-requires
unfolding ascii
put_word-next-requires c = room-left _ (rw (verdict_differ _ c.if-agree.false) at c.requires)

pub put_number-requires : goal.put_number-requires
unfolding ascii
put_number-requires c =
    puts_room c.put_word-next.ensures (rw (verdict_differ _ c.if-agree.false) at c.requires)

pub returns : goal.returns
unfolding ascii
returns c =
    rw (verdict_differ _ c.if-agree.false) (puts_more c.put_word-next.ensures c.put_number.ensures
    (rw (verdict_differ _ c.if-agree.false) at c.requires))
