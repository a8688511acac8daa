-- `call_blocks::index_lines` meets its contract. The loop's invariant: a block begins at k, and the entries of the periods below it are written; the measure is
-- how many lines are left. Assumes nothing.
use native.Mathlib.Omega.{arith}
use Rattle.words_index.proofs.Ordered.{in_order_ordered}
use Rattle.words_index.proofs.Blocks.{opens_first}
use Rattle.call_blocks.proofs.Indexing.{below_few, indexing_none, opens_on, indexing_more, indexing_whole}
use Rattle.call_blocks.proofs.index_lines.Goals as goal

pub loop-k-init : goal.loop-k-init
loop-k-init c =
    let O = in_order_ordered _ c.requires in
    (c.room-count.ensures, omega arith, O, opens_first _, indexing_none _ O _)

pub add_entry-requires : goal.add_entry-requires
add_entry-requires c =
    let I = c.loop-k.invariant in
    omega (arith, below_few _ _ _ _ (omega (arith, c.loop-k-test.true, I.0)) c.period_of-p.ensures I.4.count)

pub overflow_add-m : goal.overflow_add-m
overflow_add-m c =
    let I = c.loop-k.invariant in
    omega (arith, below_few _ _ _ _ (omega (arith, c.loop-k-test.true, I.0)) c.period_of-p.ensures I.4.count)

pub loop-k-preserved : goal.loop-k-preserved
loop-k-preserved c =
    let B = c.block_at-end.ensures in
    let I = c.loop-k.invariant in
    (I.0, omega (arith, I.0, B.high), I.2, opens_on _ I.2 _ _ _ I.3 B, indexing_more _ I.2 _ _ _ I.3 B _ _ _ _ _ c.period_of-p.ensures I.4 c.add_entry.ensures)

pub returns : goal.returns
returns c =
    let I = c.loop-k.invariant in
    indexing_whole _ I.2 _ _ _ _ (omega (arith, I.0, c.loop-k-test.false)) I.4
