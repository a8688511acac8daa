-- `text_groups::put_alone` meets its contract: the three pieces of its line, one after another. Assumes nothing.
use native.Mathlib.Omega.{arith}
use Rattle.text_puts.proofs.Putting.{puts_none}
use Rattle.text_puts.specs.Ascii.{ascii}
use Rattle.text_groups.proofs.Shapes.{alone-none}
use Rattle.text_groups.proofs.Rows.{alone-room, singles_room, alone-end-room, alone_puts}
use Rattle.text_groups.proofs.put_alone.Goals as goal

pub returns-then-count_alone-eq0 : goal.returns-then-count_alone-eq0
returns-then-count_alone-eq0 c =
    rw (alone-none c.args.links.now.table.now (omega (arith, c.count_alone.ensures, c.if-count_alone-eq0.true))) (puts_none c.requires)

pub put_word-next-requires : goal.put_word-next-requires
unfolding ascii
put_word-next-requires c =
    alone-room _ (omega (arith, c.count_alone.ensures, c.if-count_alone-eq0.false)) c.requires

pub put_singles-next-requires : goal.put_singles-next-requires
unfolding ascii
put_singles-next-requires c =
    singles_room _ (omega (arith, c.count_alone.ensures, c.if-count_alone-eq0.false)) c.requires c.put_word-next.ensures

pub put_word-requires : goal.put_word-requires
unfolding ascii
put_word-requires c =
    alone-end-room _ (omega (arith, c.count_alone.ensures, c.if-count_alone-eq0.false)) c.requires c.put_word-next.ensures c.put_singles-next.ensures

pub returns : goal.returns
unfolding ascii
returns c =
    alone_puts _ (omega (arith, c.count_alone.ensures, c.if-count_alone-eq0.false)) c.requires c.put_word-next.ensures c.put_singles-next.ensures
    c.put_word.ensures
