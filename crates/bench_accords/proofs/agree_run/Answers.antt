-- `bench_accords::agree_run` meets its contract: the lines are passed position by position, until fewer than two whole periods are left. Assumes nothing.
use Prim.Native.Nat.{◌+◌, ◌-◌}
use mathlib.Core.Path.{◌≡◌}
use native.Mathlib.Omega.{arith}
use Rattle.words_agree.proofs.ByRow.{line_here}
use Rattle.row_matches.proofs.Matching.{range_none, range_next, passed_passes}
use Rattle.bench_accords.proofs.Stops.{stopped, all-passed}
use Rattle.bench_accords.proofs.agree_run.Goals as goal

pub loop-i-init : goal.loop-i-init
loop-i-init c = let z : c.args.a - c.args.a ≡ 0 = omega arith in (omega arith, rw z (range_none _ _ c.requires.0))

pub pass_line-m-requires : goal.pass_line-m-requires
pass_line-m-requires c = c.loop-i.invariant.1.inside

pub returns-then-none : goal.returns-then-none
returns-then-none c =
    let l = c.loop-i in
    rw (stopped c.args.a c.args.b c.args.p l.i (omega arith) l.invariant.0 (omega (arith, c.whole_periods-e.ensures, c.if-none.true))) l.invariant.1

pub loop-i-preserved : goal.loop-i-preserved
loop-i-preserved c =
    let l = c.loop-i in
    let d : l.i + 1 - c.args.a ≡ l.i - c.args.a + 1 = omega arith in
    let line = line_here c.args.p l.i c.args.b (omega (arith, c.whole_periods-e.ensures, c.if-none.false)) in (
      omega arith,
      rw d (range_next _ _ _ l.i (omega arith) l.invariant.1 (rw (line, ← c.whole_periods-e.ensures, c.pass_line-m.ensures) (passed_passes _ _ l.m l.invariant.1.inside))),
    )

pub returns : goal.returns
returns c =
    let l = c.loop-i in
    rw (all-passed c.args.a c.args.b c.args.p l.i (omega arith) l.invariant.0 (omega arith)) l.invariant.1
