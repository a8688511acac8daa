-- `call_copies::stand_again` meets its contract: one letter that differs is a no, and past the read's end there is none. Assumes nothing.
use mathlib.Core.Path.{sym}
use native.Mathlib.Omega.{arith}
use borrow.Author.Count.{below_more}
use Rattle.words.proofs.Stretches.{is_alike}
use Rattle.read_letters.proofs.Bases.{bases_same, bases_differ}
use Rattle.call_copies.proofs.Compared.{alike-differs, alike_past}
use Rattle.call_copies.proofs.stand_again.Goals as goal

pub returns-then-n-i : goal.returns-then-n-i
returns-then-n-i c = alike_past _ _ _ _ c.loop-k.k c.if-n-i.true c.loop-k.invariant

pub returns-then-not-same_base : goal.returns-then-not-same_base
returns-then-not-same_base c =
    let t = c.loop-k-test.true in
    alike-differs _ _ _ _ _ t
    (bases_differ _ _ _ (λ q. omega (arith, q, t)) _ _ c.byte_at.ensures c.byte_at-in-loop-k.ensures _ c.same_base.ensures c.if-not-same_base.true)

pub loop-k-preserved : goal.loop-k-preserved
loop-k-preserved c =
    let t = c.loop-k-test.true in
    below_more _ _ c.loop-k.invariant
    (bases_same _ _ _ (λ q. omega (arith, q, t)) _ _ c.byte_at.ensures c.byte_at-in-loop-k.ensures _ c.same_base.ensures c.if-not-same_base.false)

pub returns : goal.returns
returns c = sym (is_alike _ _ _ _ (λ m l. c.loop-k.invariant m (omega arith)))
