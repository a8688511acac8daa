-- `marker_houses::line_from` meets its contract. The loop's invariant: line `counter` starts at the place reached. Assumes nothing.
use mathlib.Core.Path.{◌≡◌, sym, ap, ◌∙◌}
use native.Mathlib.Omega.{arith}
use Rattle.words_markers.specs.Houses.{line_end, line_start}
use Rattle.words_markers.proofs.Houses.{start_first, start_next}
use Rattle.marker_houses.proofs.Places.{line-at, line-none}
use Rattle.marker_houses.proofs.line_from.Goals as goal

pub loop-init : goal.loop-init
loop-init c = (omega arith, sym (start_first _))

pub returns-then-end-house : goal.returns-then-end-house
returns-then-end-house c =
    let h = c.args.house.now in
    (line-none h c.args.number c.loop.counter (omega arith) (ap (line_end h) (sym c.loop.invariant.1) ∙ sym c.line_end-end.ensures.0 ∙ c.if-end-house.true), tt)

pub loop-preserved : goal.loop-preserved
loop-preserved c =
    let h = c.args.house.now in
    (omega arith, sym (start_next h c.loop.counter ∙ omega (arith, c.line_end-end.ensures.0, ap (line_end h) c.loop.invariant.1)))

pub returns : goal.returns
returns c =
    let h = c.args.house.now in
    let q : c.loop.counter ≡ c.args.number = omega arith in
    (line-at h c.args.number c.loop.at (c.loop.invariant.1 ∙ ap (line_start h) q) c.loop.invariant.0, c.loop.invariant.0)
