-- `text_answers::put_lines` meets its contract: after k turns the texts of the first k lines are put. Assumes nothing.
use mathlib.Core.Path.{◌≡◌, refl}
use native.Mathlib.Omega.{arith}
use native.Mathlib.Nat.{zero-add, mul-le-mul_left}
use Rattle.words.specs.Range.{gather}
use Rattle.words.specs.Lists.{line_size}
use Rattle.words.proofs.LineLayout.{line-some}
use Rattle.row_cells.proofs.Adding.{fits-room}
use Rattle.text_puts.proofs.Putting.{puts_none}
use Rattle.text_puts.proofs.Pieces.{turn-room, turn_puts}
use Rattle.text_answers.specs.Texts.{line_text, lines_text}
use Rattle.text_answers.proofs.put_lines.Goals as goal

pub loop-k-init : goal.loop-k-init
unfolding gather
loop-k-init c = (refl, puts_none c.requires.1)

pub put_line-next-requires : goal.put_line-next-requires
unfolding lines_text
put_line-next-requires c =
    let t = c.loop-k-test.true in
    (fits-room line_size line-some _ _ (omega (arith, mul-le-mul_left line_size t, c.requires.0)), turn-room (line_text c.args.list.now) 0 t c.requires.1 c.loop-k.invariant.1 (zero-add _))

pub loop-k-preserved : goal.loop-k-preserved
unfolding lines_text
loop-k-preserved c = (
  omega arith,
  turn_puts (line_text c.args.list.now) 0 c.loop-k-test.true c.requires.1 c.loop-k.invariant.1 (zero-add _) c.put_line-next.ensures,
)

pub returns : goal.returns
unfolding lines_text
returns c =
    let e : c.loop-k.k ≡ c.args.count = omega arith in
    rw e at c.loop-k.invariant.1
