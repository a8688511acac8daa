-- `call_periods::rows_at` meets its contract. The loop's invariant: the rows of the places before the next start are written, and what the lines ask
-- for is kept; the measure is how many places are to come. Assumes nothing.
use native.Mathlib.Omega.{arith}
use Rattle.step2_bits.proofs.Flags.{flags-length}
use Rattle.call_periods.proofs.Rows.{kept_long}
use Rattle.call_periods.proofs.Turns.{to_come_less, turn-first, turn_few, turn_start, turn-kept, turn-next, turn_last}
use Rattle.call_periods.proofs.rows_at.Goals as goal

pub loop-next-init : goal.loop-next-init
loop-next-init c = record {
  left = _;
  turn = turn-first _ _ _ _ _ _ _ (flags-length _) c.requires.1 c.requires.3;
  taken = c.take_least-next.ensures;
}

pub row_one-k-requires : goal.row_one-k-requires
row_one-k-requires c =
    let P = c.requires in
    let A = rw c.in-Some.is at c.loop-next.invariant in
    let T = A.turn in
    let E = A.taken in
    (P.0, E.0, E.1.high, turn_start _ _ _ _ _ _ _ _ _ T _ E.0 E.1, omega (arith, turn_few _ _ _ _ _ _ _ _ _ T, P.2), turn-kept _ _ _ _ _ _ _ _ _ T _ E.0 E.1)

pub loop-next-smaller : goal.loop-next-smaller
loop-next-smaller c = rw c.in-Some.is (to_come_less _ _ (flags-length _) _ _ c.take_least-next-in-Some.ensures)

pub loop-next-preserved : goal.loop-next-preserved
loop-next-preserved c =
    let A = rw c.in-Some.is at c.loop-next.invariant in
    let E = A.taken in
    let O = c.row_one-k.ensures in
    record {
      left = _;
      turn = turn-next _ _ _ _ _ _ _ _ _ A.turn _ E.0 E.1 _ _ _ _ O.0 c.row_one-k.auto.out O.1 O.2 E.2;
      taken = c.take_least-next-in-Some.ensures;
    }

pub returns : goal.returns
returns c =
    let A = rw c.in_default.is at c.loop-next.invariant in
    let T = A.turn in
    let none = A.taken in
    (turn_last _ _ _ _ _ _ _ _ _ T none.0, turn_few _ _ _ _ _ _ _ _ _ T, kept_long _ _ _ _ _ T.kept, rw none.1 none.0)
