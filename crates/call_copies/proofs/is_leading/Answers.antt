-- `call_copies::is_leading` meets its contract: the tests that the code makes are the definition's. Assumes nothing.
use Prim.Native.Nat.{◌+◌, ◌-◌}
use mathlib.Core.Path.{◌≡◌}
use native.Mathlib.Omega.{arith}
use borrow.Author.Tests.{le-leb, lt-leb}
use Rattle.words.specs.Repeats.{leads}
use Rattle.call_copies.proofs.is_leading.Goals as goal

pub returns-then-start-period : goal.returns-then-start-period
unfolding leads
returns-then-start-period c = let a = c.args in rw (le-leb a.start a.period (omega arith))

pub returns-else-start-period : goal.returns-else-start-period
unfolding leads
returns-else-start-period c =
    let a = c.args in
    let back : a.start - a.period + a.period ≡ a.start = omega arith in
    rw (lt-leb a.start a.period (omega arith), c.stand_again.ensures, back)
