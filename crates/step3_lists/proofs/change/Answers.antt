-- `change` meets its contract: by its tests the position need not wait, waits already, or is filed. Assumes nothing.
use mathlib.Core.Path.{refl, sym, ◌∙◌}
use native.Mathlib.Omega.{arith}
use Rattle.step3_lists.proofs.Changing.{heads_put, changed_below, changed_on, changed_filed}
use Rattle.step3_lists.proofs.change.Goals as goal

pub file-requires : goal.file-requires
file-requires c =
    let s = c.requires in
    (rw c.store.ensures (heads_put _ _ _ _ refl s.1), s.2, s.3, omega (arith, c.if-d-w.false), s.4)

pub returns-then-d-w : goal.returns-then-d-w
returns-then-d-w c =
    let s = c.requires in
    rw c.store.ensures (changed_below _ _ s.0 _ _ (s.2, s.3) s.4 c.if-d-w.true)

pub returns-then-load-eq0 : goal.returns-then-load-eq0
returns-then-load-eq0 c =
    let s = c.requires in
    rw (c.file.ensures, c.store.ensures)
    (changed_filed _ _ s.0 _ _ (s.2, s.3) s.4 (sym (rw c.store.ensures at c.load.ensures) ∙ c.if-load-eq0.true) c.if-d-w.false)

pub returns-else-load-eq0 : goal.returns-else-load-eq0
returns-else-load-eq0 c =
    let s = c.requires in
    rw c.store.ensures (changed_on _ _ s.0 _ _ (s.2, s.3) s.4 (λ e. c.if-load-eq0.false (rw c.store.ensures at c.load.ensures ∙ e)))
