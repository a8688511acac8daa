-- `call_judges::first_bad` meets its contract: the judge stops at the first bad entry, or there is none. Assumes nothing.
use mathlib.Core.Path.{sym, ◌∙◌}
use native.Mathlib.Omega.{arith}
use Rattle.call_judges.proofs.Judging.{seen_start, bad_here, bad_none}
use Rattle.call_judges.proofs.first_bad.Goals as goal

pub loop-k-init : goal.loop-k-init
loop-k-init c = (c.entries-whole.ensures, seen_start _ _)

pub returns-then-not-judge : goal.returns-then-not-judge
returns-then-not-judge c =
    let l = c.loop-k in
    bad_here _ _ _ _ l.invariant.1 (rw (← l.invariant.0) c.loop-k-test.true) (sym c.judge.ensures.0 ∙ c.if-not-judge.true)

pub returns : goal.returns
returns c = omega (arith, bad_none _ _ _ _ c.loop-k.invariant.1 (omega arith) (omega arith))
