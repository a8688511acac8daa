-- `call_copies::root_at` meets its contract: the first length that writes the motif, or the whole. Assumes nothing.
use mathlib.Core.Path.{sym, ◌∙◌}
use mathlib.Core.Logic.{inl, inr, ⊎_elim}
use native.Mathlib.Omega.{arith}
use borrow.Author.Tests.{eq-eqb}
use Rattle.words.proofs.Tests.{lt_or_ge}
use Rattle.call_copies.proofs.Roots.{root_short, root_found, root_past, root_half, inside_high, inside-writes, unwritten_on}
use Rattle.call_copies.proofs.root_at.Goals as goal

pub returns-then-p-lt2 : goal.returns-then-p-lt2
returns-then-p-lt2 c = root_short _ _ _ c.if-p-lt2.true

pub returns-then-read-i : goal.returns-then-read-i
returns-then-read-i c = root_past _ _ _ (omega arith) (omega arith)

pub returns-then-m-p : goal.returns-then-m-p
returns-then-m-p c =
    let l = c.loop-d in
    let less = c.loop-d-test.true in
    root_found _ _ _ l.d l.invariant.0 (omega arith) l.invariant.1 (sym (inside-writes _ _ _ l.d l.invariant.0 (omega arith) (omega arith)) ∙ eq-eqb _ _ (sym c.agree_inside-m.ensures ∙ c.if-m-p.true))

pub overflow_add-d : goal.overflow_add-d
overflow_add-d c = let l = c.loop-d in omega (arith, inside_high _ _ _ l.d l.invariant.0 (omega arith) _ c.agree_inside-m.ensures)

pub loop-d-preserved : goal.loop-d-preserved
loop-d-preserved c =
    let l = c.loop-d in (
      omega arith,
      unwritten_on _ _ _ l.d l.invariant.0 (omega arith) _ c.agree_inside-m.ensures c.if-m-p.false (omega arith) l.invariant.1 c.max-d.result
          (⊎_elim (λ h. inr (omega (arith, h))) (λ h. inl (omega (arith, h))) (lt_or_ge l.d c.agree_inside-m.result)),
    )

pub returns : goal.returns
returns c = root_half _ _ _ (omega arith) c.loop-d.d (omega arith) c.loop-d.invariant.1
