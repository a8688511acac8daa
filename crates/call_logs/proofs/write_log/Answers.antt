-- `call_logs::write_log` meets its contract. The loop's invariant has two statements: the rows hold the read's groups and lists at width w, and the widths below w are
-- logged. Assumes nothing.
use Prim.Native.Nat.{ℕ, ◌*◌}
use mathlib.Core.Path.{refl, ap, ◌∙◌}
use native.Mathlib.Omega.{arith}
use native.Mathlib.Numerals.{add-one}
use borrow.Author.Rules.{rules}
use Rattle.words.specs.Moves.{move_size}
use Rattle.row_cells.specs.Stored.{stored}
use Rattle.row_cells.proofs.Stored.{stored-length}
use Rattle.steps.proofs.Begins.{begin_asks}
use Rattle.steps.proofs.Phases.{queue_asks, held_passed, held_queued, queued_advanced}
use Rattle.steps.proofs.OfRead.{stands_advance}
use Rattle.steps.proofs.Walks.{stands-passed}
use Rattle.call_logs.proofs.Queues.{queue_few, queue-counted, queue-places, queue-moves}
use Rattle.call_logs.proofs.Widths.{logging_begins, logging_room, logging_ends, logging_stops, logging_on, logging_few}
use Rattle.call_logs.proofs.write_log.Goals as goal

pub begin-requires : goal.begin-requires
begin-requires c = (search rules, search rules, begin_asks, c.none-small.ensures)

pub loop-w-init : goal.loop-w-init
loop-w-init c = let B = c.begin.ensures in (B.0, B.1, logging_begins _ _, refl)

pub push_all-m-requires : goal.push_all-m-requires
push_all-m-requires c =
    let E = c.pass.ensures in
    queue_asks _ _ _ (held_passed _ _ _ c.loop-w.invariant.0.held _ E.0 E.1)

pub returns-then-m-eq0 : goal.returns-then-m-eq0
returns-then-m-eq0 c =
    let Q = c.push_all-m.ensures in
    let I = c.loop-w.invariant in
    let S = stands-passed _ _ _ _ _ _ c.pass.ensures.0 c.pass.ensures.1 I.0 in
    logging_stops _ _ _ _ _ _ _ _ S I.2 _ (omega (arith, c.loop-w-test.true)) (queue-counted _ _ _ S.held _ _ Q.1 Q.2 Q.3) c.if-m-eq0.true

pub write_moves-requires : goal.write_moves-requires
write_moves-requires c =
    let Q = c.push_all-m.ensures in
    let I = c.loop-w.invariant in
    let S = stands-passed _ _ _ _ _ _ c.pass.ensures.0 c.pass.ensures.1 I.0 in
    let H = S.held in (
      queue_few _ _ _ H _ _ Q.1 Q.2 Q.3,
      queue-places _ _ _ H _ _ Q.1 Q.2 Q.3,
      omega (
        arith,
        I.3,
        c.requires.1,
        logging_room _ _ _ _ _ _ _ _ S I.2 (omega (arith, c.loop-w-test.true)),
        ap (λ (v : ℕ). move_size * v) (queue-counted _ _ _ H _ _ Q.1 Q.2 Q.3),
      ),
    )

pub move_on-requires : goal.move_on-requires
move_on-requires c =
    let Q = c.push_all-m.ensures in
    let E = c.pass.ensures in
    held_queued _ _ _ (held_passed _ _ _ c.loop-w.invariant.0.held _ E.0 E.1) _ E.2 _ _ _ Q.0 Q.1 Q.2 Q.3 Q.4

pub overflow_add-k : goal.overflow_add-k
overflow_add-k c =
    let Q = c.push_all-m.ensures in
    let I = c.loop-w.invariant in
    let S = stands-passed _ _ _ _ _ _ c.pass.ensures.0 c.pass.ensures.1 I.0 in
    omega (arith, c.wide-k.ensures, logging_few _ _ _ _ _ _ _ _ S I.2 _ (omega (arith, c.loop-w-test.true)) (queue-counted _ _ _ S.held _ _ Q.1 Q.2 Q.3))

pub loop-w-preserved : goal.loop-w-preserved
loop-w-preserved c =
    let R = c.move_on.ensures in
    let W = c.write_moves.ensures in
    let Q = c.push_all-m.ensures in
    let E = c.pass.ensures in
    let L = c.loop-w in
    let I = L.invariant in
    let S = stands-passed _ _ _ _ _ _ E.0 E.1 I.0 in
    let A = queued_advanced _ _ _ S.held _ E.2 _ _ _ Q.0 Q.1 Q.2 Q.3 Q.4 _ _ R.0 in
    let M = logging_on _ _ _ _ _ _ _ _ S I.2 _ (omega (arith, c.loop-w-test.true)) A.moves _ (W ∙ ap (stored _ _) (queue-moves _ _ _ S.held _ _ Q.1 Q.2 Q.3 L.w)) in (
      rw (add-one L.w) (stands_advance _ _ I.2.low _ _ _ _ _ _ S A),
      rw (add-one L.w) R.1,
      rw (add-one L.w, c.wide-k.ensures) M,
      stored-length _ _ _ _ W ∙ I.3,
    )

pub returns : goal.returns
returns c =
    let I = c.loop-w.invariant in
    logging_ends _ _ _ _ _ _ _ _ I.0 I.2 (omega (arith, c.loop-w-test.false))
