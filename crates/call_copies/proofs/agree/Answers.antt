-- `call_copies::agree` meets its contract: it returns where the letters end to agree. Assumes nothing.
use mathlib.Core.Path.{sym}
use native.Mathlib.Omega.{arith}
use borrow.Author.Count.{below_more}
use Rattle.read_letters.proofs.Bases.{bases_same, bases_differ}
use Rattle.call_copies.proofs.Letters.{byte_at}
use Rattle.call_copies.proofs.Agreed.{agreed_is, agreed-none, agreed-first}
use Rattle.call_copies.proofs.agree.Goals as goal

pub returns-then-w-eq0 : goal.returns-then-w-eq0
returns-then-w-eq0 c = agreed_is _ _ _ _ 0 (omega arith) (λ k l. absurd (omega arith)) (λ l. absurd (omega arith))

pub returns-then-not-same_base : goal.returns-then-not-same_base
returns-then-not-same_base c =
    agreed-none _ _ _ _ (bases_differ _ _ _ (λ q. omega (arith, q)) _ _ c.byte_at.ensures c.byte_at-2.ensures _ c.same_base.ensures c.if-not-same_base.true)

pub loop-k-init : goal.loop-k-init
loop-k-init c =
    agreed-first _ 0 _ _ (bases_same _ _ _ (λ q. omega (arith, q)) _ _ c.byte_at.ensures c.byte_at-2.ensures _ c.same_base.ensures c.if-not-same_base.false)

pub returns-then-not-same_base-2 : goal.returns-then-not-same_base-2
returns-then-not-same_base-2 c =
    agreed_is _ _ _ _ c.loop-k.k (omega arith) c.loop-k.invariant
    (λ m. bases_differ _ _ _ (λ q. omega (arith, q)) _ _ (sym (byte_at _ _)) (sym (byte_at _ _)) _ c.same_base-in-loop-k.ensures c.if-not-same_base-2.true)

pub loop-k-preserved : goal.loop-k-preserved
loop-k-preserved c =
    below_more _ _ c.loop-k.invariant
    (bases_same _ _ _ (λ q. omega (arith, q)) _ _ (sym (byte_at _ _)) (sym (byte_at _ _)) _ c.same_base-in-loop-k.ensures c.if-not-same_base-2.false)

pub returns : goal.returns
returns c = agreed_is _ _ _ _ c.args.w (omega arith) (λ m l. c.loop-k.invariant m (omega arith)) (λ m. absurd (omega arith))
