-- `step8_groups::group_all` meets its contract: each group has its turn. Assumes nothing.
use Prim.Native.Nat.{◌+◌, ◌-◌}
use mathlib.Core.Path.{◌≡◌}
use native.Mathlib.Omega.{arith}
use Rattle.step1_rows.specs.Rows.{row, TOUCHED}
use Rattle.words.specs.Reads.{at}
use Rattle.step8_groups.proofs.Grouping.{turns_begin, turn_asked, turn-made, turns_end}
use Rattle.step8_groups.proofs.group_all.Goals.{After-load-k, After-group_one}
use Rattle.step8_groups.proofs.group_all.Goals as goal

-- the group of place q
here : (c : After-load-k) → c.load-k.result ≡ at (row c.loop-q.a TOUCHED) (c.loop-q.q - 1 + 1)
here c = let e : c.loop-q.q - 1 + 1 ≡ c.loop-q.q = omega arith in rw e c.load-k.ensures

pub loop-q-init : goal.loop-q-init
loop-q-init c = λ t S R. turns_begin R

pub group_one-requires : goal.group_one-requires
group_one-requires c =
    let R = c.requires.2 in
    turn_asked R (omega arith) (c.loop-q.invariant _ _ R) (here (goal.at.group_one-requires c).After-load-k)

pub loop-q-preserved : goal.loop-q-preserved
loop-q-preserved c = λ t S R.
    let e : c.loop-q.q + 1 - 1 ≡ c.loop-q.q - 1 + 1 = omega arith in
    rw e (turn-made R (omega arith) (c.loop-q.invariant t S R) (here (goal.at.loop-q-preserved c).After-load-k) c.group_one.ensures)

pub returns : goal.returns
returns c = λ t S R. turns_end R (omega arith) (c.loop-q.invariant t S R)

-- after the last turn
pub returns-2 : goal.returns-2
returns-2 c = λ t S R. turns_end R (omega arith) (turn-made R (omega arith) (c.loop-q.invariant t S R) (here (goal.at.returns-2 c).After-load-k) c.group_one.ensures)
