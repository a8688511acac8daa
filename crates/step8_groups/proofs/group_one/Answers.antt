-- `step8_groups::group_one` meets its contract: its three cases are those of a turn. Assumes nothing.
use Prim.Native.Nat.{◌≤◌}
use native.Mathlib.Omega.{arith}
use Rattle.step8_groups.proofs.Turning.{turn_gone, turn-same, turn-walk, turn_renamed}
use Rattle.step8_groups.proofs.group_one.Goals as goal

pub rename-requires : goal.rename-requires
rename-requires c =
    let D = c.requires in
    rw (c.store-then-l-k.ensures, c.store-then-l-gt0.ensures, c.store.ensures)
    (turn-walk _ _ _ _ c.load-l.ensures c.load-r.ensures D.long (omega (arith, c.if-l-gt0.true)) c.if-l-k.true D)

pub returns-then-l-k : goal.returns-then-l-k
returns-then-l-k c =
    let n = rw (c.store-then-l-k.ensures, c.store-then-l-gt0.ensures, c.store.ensures) at c.rename.ensures in
    let p : 1 ≤ c.load-l.result = omega (arith, c.if-l-gt0.true) in
    turn_renamed _ _ _ _ c.load-l.ensures c.load-r.ensures c.requires.long p c.if-l-k.true _ n.0 n.1 n.2

pub returns-else-l-k : goal.returns-else-l-k
returns-else-l-k c =
    rw (c.store-then-l-gt0.ensures, c.store.ensures)
    (turn-same _ _ _ _ c.load-l.ensures c.load-r.ensures c.requires.long (omega (arith, c.if-l-gt0.true)) c.if-l-k.false)

pub returns-else-l-gt0 : goal.returns-else-l-gt0
returns-else-l-gt0 c =
    rw c.store.ensures (turn_gone _ _ _ _ c.load-l.ensures c.load-r.ensures c.requires.long (omega (arith, c.if-l-gt0.false)))
