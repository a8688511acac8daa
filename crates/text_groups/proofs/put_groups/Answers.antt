-- `text_groups::put_groups` meets its contract: after i turns the lines of the first i names are put. Assumes nothing.
use Prim.Native.Nat.{◌+◌}
use mathlib.Core.Path.{◌≡◌, refl}
use native.Mathlib.Omega.{arith}
use lib.ListN.{length}
use Rattle.words.specs.Range.{gather}
use Rattle.text_puts.proofs.Putting.{puts_none}
use Rattle.text_groups.specs.Groups.{group_text, groups_text}
use Rattle.text_puts.proofs.Pieces.{turn-room, turn_puts}
use Rattle.text_groups.proofs.put_groups.Goals as goal

pub loop-i-init : goal.loop-i-init
unfolding gather
loop-i-init c = (refl, puts_none c.requires)

pub put_group-next-requires : goal.put_group-next-requires
unfolding groups_text
put_group-next-requires c =
    turn-room (group_text c.args.links.now.table.now) 1 c.loop-i-test.true c.requires c.loop-i.invariant.1 {v = c.loop-i.i + 1} (omega arith)

pub loop-i-preserved : goal.loop-i-preserved
unfolding groups_text
loop-i-preserved c = (
  omega arith,
  turn_puts (group_text c.args.links.now.table.now) 1 c.loop-i-test.true c.requires c.loop-i.invariant.1 {v = c.loop-i.i + 1} (omega arith)
      c.put_group-next.ensures,
)

pub returns : goal.returns
unfolding groups_text
returns c = let e : c.loop-i.i ≡ length c.args.links.now.table.now = omega arith in
    rw e at c.loop-i.invariant.1
