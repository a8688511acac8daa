-- `release` meets its contract: its stores are the definition, by the distance of the position. Assumes nothing.
use mathlib.Core.Path.{refl, sym, ◌∙◌}
use native.Mathlib.Omega.{arith}
use borrow.Author.Tests.{eq-eqb, ne_eqb}
use Rattle.step3_lists.proofs.Changing.{heads_put, released_on, released_off}
use Rattle.step3_lists.proofs.release.Goals as goal

pub file-requires : goal.file-requires
file-requires c =
    let s = c.requires in
    (rw c.store.ensures (heads_put _ _ _ _ refl s.0), s.1, s.2, omega (arith, c.if-w-d.true), omega (arith, c.load-d.ensures, s.3))

pub returns-then-d-w : goal.returns-then-d-w
returns-then-d-w c =
    let e = sym c.load-d.ensures ∙ c.if-d-w.true in
    (c.store.ensures ∙ sym (released_off _ _ _ (omega (arith, e))), rw (eq-eqb _ _ e) c.mark.ensures)

pub returns-then-w-d : goal.returns-then-w-d
returns-then-w-d c = (
  rw (c.file.ensures, c.store.ensures, c.load-d.ensures) (sym (released_on _ _ _ (omega (arith, c.load-d.ensures, c.if-w-d.true)))),
  rw (ne_eqb _ _ (λ e. c.if-d-w.false (c.load-d.ensures ∙ e))) refl,
)

pub returns-else-w-d : goal.returns-else-w-d
returns-else-w-d c = (
  c.store.ensures ∙ sym (released_off _ _ _ (omega (arith, c.load-d.ensures, c.if-w-d.false))),
  rw (ne_eqb _ _ (λ e. c.if-d-w.false (c.load-d.ensures ∙ e))) refl,
)
