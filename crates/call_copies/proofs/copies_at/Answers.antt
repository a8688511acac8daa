-- `call_copies::copies_at` meets its contract: each return is the count there, which is at most n. Assumes nothing.
use Prim.Native.Nat.{◌+◌, ◌/◌}
use mathlib.Core.Logic.{⊎_elim}
use native.Mathlib.Omega.{arith}
use lib.ListN.{length}
use Rattle.words.proofs.Tests.{lt_or_ge}
use Rattle.call_copies.proofs.Counted.{counted_past, counted_empty}
use Rattle.call_copies.proofs.Agreed.{agreed_few, agreed-copies, agreed-most}
use Rattle.call_copies.proofs.copies_at.Goals as goal

pub returns-then-n-i : goal.returns-then-n-i
returns-then-n-i c = counted_past _ _ _ (omega arith)

pub returns-then-p-eq0 : goal.returns-then-p-eq0
returns-then-p-eq0 c = counted_empty _ _ _ c.if-p-eq0.true (omega arith)

pub overflow_add-e : goal.overflow_add-e
overflow_add-e c = omega (arith, agreed_few _ _ _ _ _ (omega arith) (omega arith) c.agree.ensures)

pub returns : goal.returns
returns c =
    let a = c.args in
    let few = agreed-copies a.read.now a.start a.period _ c.agree.result (omega arith) (omega arith) c.agree.ensures in
    let most = agreed-most a.read.now a.start a.period _ c.agree.result (omega arith) (omega arith) c.agree.ensures in
    ⊎_elim (λ l. omega (arith, most l)) (λ l. omega (arith, few l)) (lt_or_ge (length a.read.now) (c.agree.result / a.period + 1))
