-- `text_groups::put_group` meets its contract: the four pieces of its line, one after another. Assumes nothing.
use native.Mathlib.Omega.{arith}
use Rattle.text_puts.proofs.Putting.{puts_none}
use Rattle.text_puts.specs.Ascii.{ascii}
use Rattle.text_groups.proofs.Shapes.{group_none}
use Rattle.text_groups.proofs.Rows.{group_room, group_name_room, members_room, group_end_room, group_puts}
use Rattle.text_groups.proofs.put_group.Goals as goal

pub returns-then-small : goal.returns-then-small
returns-then-small c =
    rw (group_none c.args.links.now.table.now c.args.s (omega (arith, c.few_of-small.ensures, c.if-small.true))) (puts_none c.requires)

pub put_word-next-requires : goal.put_word-next-requires
unfolding ascii
put_word-next-requires c =
    group_room _ _ (omega (arith, c.few_of-small.ensures, c.if-small.false)) c.requires

pub put_number-next-requires : goal.put_number-next-requires
unfolding ascii
put_number-next-requires c =
    group_name_room _ _ (omega (arith, c.few_of-small.ensures, c.if-small.false)) c.requires c.put_word-next.ensures

pub put_members-next-requires : goal.put_members-next-requires
unfolding ascii
put_members-next-requires c =
    members_room _ _ (omega (arith, c.few_of-small.ensures, c.if-small.false)) c.requires c.put_word-next.ensures c.put_number-next.ensures

pub put_word-requires : goal.put_word-requires
unfolding ascii
put_word-requires c =
    group_end_room _ _ (omega (arith, c.few_of-small.ensures, c.if-small.false)) c.requires c.put_word-next.ensures c.put_number-next.ensures
    c.put_members-next.ensures

pub returns : goal.returns
unfolding ascii
returns c =
    group_puts _ _ (omega (arith, c.few_of-small.ensures, c.if-small.false)) c.requires c.put_word-next.ensures c.put_number-next.ensures
    c.put_members-next.ensures c.put_word.ensures
