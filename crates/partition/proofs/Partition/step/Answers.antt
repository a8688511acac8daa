-- `Partition::step` meets its contract: nothing at width n, and else what a step of its rows leaves. Assumes nothing.
use mathlib.Core.Path.{refl, sym}
use native.Mathlib.Omega.{arith}
use Rattle.steps.proofs.Phases.{held_passed}
use Rattle.partition.specs.Stand.{groups, small_ones}
use Rattle.partition.proofs.Steps.{step_still}
use Rattle.partition.proofs.Stepping.{good-long, stepped}
use Rattle.partition.proofs.Partition.step.Goals as goal

pub returns-then-n-w : goal.returns-then-n-w
returns-then-n-w c =
    let p = c.args.self in
    let e = step_still p.width (groups p) (small_ones p) (omega (arith, c.if-n-w.true, good-long p c.requires)) in
    (c.requires, refl, sym e.0, sym e.1, sym e.2, sym e.3, λ h. refl)

pub pass-requires : goal.pass-requires
pass-requires c =
    let G = c.requires in
    (rw c.rows_of-a.ensures G.held.long, rw c.rows_of-a.ensures G.waits, G.wide, omega (arith, c.if-n-w.false, G.held.few))

pub advance-m-requires : goal.advance-m-requires
advance-m-requires c =
    let E = c.pass.ensures in
    (held_passed _ _ _ (rw c.rows_of-a.ensures c.requires.held) _ E.0 E.1, E.2)

pub returns : goal.returns
returns c =
    let l = c.if-n-w.false in
    let A = c.advance-m.ensures in
    let S = stepped _ _ _ _ _ _ _ c.requires (omega (arith, l)) c.rows_of-a.ensures c.pass.ensures.1 A.0 A.1 c.kept-self.ensures in
    (S.0, S.1, S.2, S.3, S.4, S.5, λ h. absurd (omega (arith, h, l)))
