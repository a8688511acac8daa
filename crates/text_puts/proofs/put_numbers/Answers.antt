-- `text_puts::put_numbers` meets its contract: after i turns the texts of the row's first i numbers are put. Assumes nothing.
use mathlib.Core.Path.{◌≡◌, refl}
use native.Mathlib.Nat.{zero-add}
use native.Mathlib.Omega.{arith}
use lib.ListN.{length}
use Rattle.words.specs.Range.{gather}
use Rattle.text_puts.specs.Numbers.{cell_text, numbers_text}
use Rattle.text_puts.proofs.Putting.{puts_none}
use Rattle.text_puts.proofs.Pieces.{turn-room, turn_puts}
use Rattle.text_puts.proofs.put_numbers.Goals as goal

pub loop-i-init : goal.loop-i-init
unfolding gather
loop-i-init c = (refl, puts_none c.requires)

pub put_cell-next-requires : goal.put_cell-next-requires
unfolding numbers_text
put_cell-next-requires c =
    let t = c.loop-i-test.true in
    (t, turn-room (cell_text c.args.row.now) 0 t c.requires c.loop-i.invariant.1 (zero-add _))

pub loop-i-preserved : goal.loop-i-preserved
unfolding numbers_text
loop-i-preserved c = (
  omega arith,
  turn_puts (cell_text c.args.row.now) 0 c.loop-i-test.true c.requires c.loop-i.invariant.1 (zero-add _) c.put_cell-next.ensures,
)

pub returns : goal.returns
unfolding numbers_text
returns c =
    let e : c.loop-i.i ≡ length c.args.row.now = omega arith in
    rw e at c.loop-i.invariant.1
