-- `call_moves::write_moves`: the loop's invariant. The moves of the first q places are written. Assumes nothing.
use Prim.Native.Nat.{◌*◌}
use mathlib.Core.Path.{◌≡◌}
use lib.ListN.{length}
use Rattle.words.specs.Moves.{move_size}
use Rattle.row_cells.specs.Stored.{stored}
use Rattle.step1_rows.specs.Rows.{row, NAME, QUE}
use Rattle.call_moves.specs.Queued.{moves_to}
use Rattle.call_moves.proofs.write_moves.Given as goal

abbrev pub invariant-loop-q : goal.invariant-loop-q
invariant-loop-q l =
    (length l.out ≡ length l.initial.out) × (l.out ≡ stored l.initial.out (move_size * l.k) (moves_to l.w (row l.a NAME) (row l.a QUE) l.q)) × (l.size ≡ move_size)
