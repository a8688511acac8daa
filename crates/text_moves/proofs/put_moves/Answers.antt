-- `text_moves::put_moves` meets its contract: after k turns the texts of the first k entries are put. Assumes nothing.
use mathlib.Core.Path.{◌≡◌, refl}
use native.Mathlib.Omega.{arith}
use Rattle.words.specs.Range.{gather}
use Rattle.words.specs.Rows.{rows}
use Rattle.words.specs.Moves.{move_size}
use Rattle.text_puts.proofs.Putting.{puts_none}
use Rattle.text_moves.specs.Moves.{move_text, moves_text}
use Rattle.text_puts.proofs.Pieces.{turn-room, turn_puts}
use Rattle.text_moves.proofs.put_moves.Goals as goal

pub loop-k-init : goal.loop-k-init
unfolding gather
loop-k-init c = (refl, puts_none c.requires)

pub put_move-next-requires : goal.put_move-next-requires
unfolding moves_text
put_move-next-requires c =
    let n = c.entries-count.ensures in (
      omega (arith, c.entries-count.ensures),
      turn-room (move_text c.args.moves.now) 0 c.loop-k-test.true (rw (← n) at c.requires) c.loop-k.invariant.1 {v = c.loop-k.k} (omega arith),
    )

pub loop-k-preserved : goal.loop-k-preserved
unfolding moves_text
loop-k-preserved c =
    let n = c.entries-count.ensures in (
      omega arith,
      turn_puts (move_text c.args.moves.now) 0 c.loop-k-test.true (rw (← n) at c.requires) c.loop-k.invariant.1 {v = c.loop-k.k} (omega arith)
          c.put_move-next.ensures,
    )

pub returns : goal.returns
unfolding moves_text
returns c =
    let e : c.loop-k.k ≡ rows move_size c.args.moves.now = omega (arith, c.entries-count.ensures) in
    rw e at c.loop-k.invariant.1
