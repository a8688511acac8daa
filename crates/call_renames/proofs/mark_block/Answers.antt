-- `call_renames::mark_block` meets its contract: the entries before the first that is of no such width have marked. Assumes nothing.
use Prim.Native.Nat.{◌<◌}
use mathlib.Core.Path.{◌≡◌, sym, ◌∙◌}
use native.Mathlib.Omega.{arith}
use Rattle.words.specs.Rows.{rows}
use Rattle.words.specs.Moves.{move_size, width_of}
use Rattle.call_renames.proofs.Marked.{mark_inside, marking_step, marking_end}
use Rattle.call_renames.proofs.mark_block.Goals.{Else-width_of-v}
use Rattle.call_renames.proofs.mark_block.Goals as goal

there : (c : Else-width_of-v) → c.loop-q.q < rows move_size c.args.log.now
there c = omega arith

same : (c : Else-width_of-v) → width_of c.args.log.now c.loop-q.q ≡ c.args.v
same c = sym c.width_of.ensures ∙ c.if-width_of-v.false

pub returns-then-width_of-v : goal.returns-then-width_of-v
returns-then-width_of-v c =
    let p = c.requires in
    marking_end _ _ p.1 _ _ p.2 _ _ c.loop-q.auto.q (omega arith) c.loop-q.invariant (λ l e. c.if-width_of-v.true (c.width_of.ensures ∙ e))

pub mark_one-requires : goal.mark_one-requires
mark_one-requires c =
    let p = c.requires in
    let s = (goal.at.mark_one-requires c).Else-width_of-v in
    let w = mark_inside _ _ p.1 _ _ p.2 _ (there s) (same s) _ c.loop-q.invariant in
    (there s, w.0, w.1)

pub loop-q-preserved : goal.loop-q-preserved
loop-q-preserved c =
    let p = c.requires in
    let s = (goal.at.loop-q-preserved c).Else-width_of-v in
    marking_step _ _ p.1 _ _ p.2 _ (there s) (same s) _ c.loop-q.invariant _ c.mark_one.ensures

pub returns : goal.returns
returns c =
    let p = c.requires in
    let e : c.loop-q.q ≡ c.entries-whole.result = omega (arith, p.2.inside) in
    rw e at (marking_end _ _ p.1 _ _ p.2 c.loop-q.q _ c.loop-q.auto.q (omega (arith, p.2.inside)) c.loop-q.invariant (λ l. absurd (omega arith)))
