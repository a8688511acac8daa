-- `text_groups::put_singles` meets its contract: after i turns those alone among the first i positions are put. Assumes nothing.
use Prim.Native.Nat.{◌+◌}
use mathlib.Core.Path.{◌≡◌, refl}
use native.Mathlib.Omega.{arith}
use lib.ListN.{length}
use Rattle.words.specs.Range.{gather}
use Rattle.text_puts.proofs.Putting.{puts_none}
use Rattle.text_groups.specs.Groups.{single_text, singles_text}
use Rattle.text_puts.proofs.Pieces.{turn-room, turn_puts}
use Rattle.text_groups.proofs.Cells.{single_is}
use Rattle.text_groups.proofs.put_singles.Goals as goal

pub loop-i-init : goal.loop-i-init
unfolding gather
loop-i-init c = (refl, puts_none c.requires)

pub put_shown-next-requires : goal.put_shown-next-requires
unfolding singles_text
put_shown-next-requires c =
    let r = turn-room (single_text c.args.links.now.table.now) 1 c.loop-i-test.true c.requires c.loop-i.invariant.1 {v = c.loop-i.i + 1} (omega arith) in
    rw (single_is c.args.links.now.table.now c.loop-i.i c.is_alone.ensures) at r

pub loop-i-preserved : goal.loop-i-preserved
unfolding singles_text
loop-i-preserved c = (
  omega arith,
  turn_puts (single_text c.args.links.now.table.now) 1 c.loop-i-test.true c.requires c.loop-i.invariant.1 {v = c.loop-i.i + 1} (omega arith)
      (rw (single_is c.args.links.now.table.now c.loop-i.i c.is_alone.ensures) c.put_shown-next.ensures),
)

pub returns : goal.returns
unfolding singles_text
returns c = let e : c.loop-i.i ≡ length c.args.links.now.table.now = omega arith in
    rw e at c.loop-i.invariant.1
