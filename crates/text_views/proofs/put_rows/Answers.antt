-- `text_views::put_rows` meets its contract: after k turns the first k rows are put. Assumes nothing.
use mathlib.Core.Path.{◌≡◌, refl}
use native.Mathlib.Omega.{arith}
use Rattle.words.specs.Range.{gather}
use Rattle.words.specs.Rows.{rows}
use Rattle.text_puts.proofs.Putting.{puts_none}
use Rattle.text_puts.proofs.Pieces.{turn-room, turn_puts}
use Rattle.text_views.specs.Views.{row_text, rows_text}
use Rattle.text_views.proofs.put_rows.Goals as goal

pub loop-k-init : goal.loop-k-init
unfolding gather
loop-k-init c = (refl, puts_none c.requires.1)

pub put_row-next-requires : goal.put_row-next-requires
unfolding rows_text
put_row-next-requires c =
    let n = c.count-rows.ensures in (
      omega (arith, c.count-rows.ensures),
      turn-room (row_text c.args.word.now c.args.c c.args.list.now) 0 c.loop-k-test.true (rw (← n) at c.requires.1) c.loop-k.invariant.1 {v = c.loop-k.k} (omega arith),
    )

pub loop-k-preserved : goal.loop-k-preserved
unfolding rows_text
loop-k-preserved c =
    let n = c.count-rows.ensures in (
      omega arith,
      turn_puts (row_text c.args.word.now c.args.c c.args.list.now) 0 c.loop-k-test.true (rw (← n) at c.requires.1) c.loop-k.invariant.1 {v = c.loop-k.k} (omega arith)
          c.put_row-next.ensures,
    )

pub returns : goal.returns
unfolding rows_text
returns c =
    let e : c.loop-k.k ≡ rows c.args.c c.args.list.now = omega (arith, c.count-rows.ensures) in
    rw e at c.loop-k.invariant.1
