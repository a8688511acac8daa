-- `marker_seats::seat_both` meets its contract: each return is the definition's, way by way. Assumes nothing.
use Prim.Native.Nat.{◌≤◌}
use mathlib.Core.Path.{◌≡◌, sym, ◌∙◌}
use native.Mathlib.Omega.{arith}
use lib.ListN.{length}
use Rattle.words_primers.specs.Primers.{places}
use Rattle.words_markers.specs.Sites.{seat, behind}
use Rattle.words_markers.proofs.Seating.{left_missing, right_missing, left_often, right_often, out_of_order, in_order_lem}
use Rattle.marker_seats.proofs.Only.{counted, only_place}
use Rattle.marker_seats.proofs.seat_both.Goals.{After-wide, After-wide-to, Else-lefts-eq0}
use Rattle.marker_seats.proofs.seat_both.Goals as goal

-- how many places each primer has, of which the left one has some
counts : (c : Else-lefts-eq0) → let s = c in let t = s in let a = t.args in
    (length (places a.read.now a.left.now) ≡ t.scan-lefts.result) × (1 ≤ length (places a.read.now a.left.now)) × (length (places a.read.now a.right.now) ≡ s.scan-rights.result)
counts c =
    let s = c in
    let t = s in
    let l = counted _ _ _ _ t.scan-lefts.ensures in
    (l, omega (arith, l, c.if-lefts-eq0.false), counted _ _ _ _ s.scan-rights.ensures)

-- and that is what the search wrote
left_at : (c : After-wide) → let t = c in let a = t.args in
    (length (places a.read.now a.left.now) ≡ 1) × (c.wide.result ≡ seat a.read.now a.left.now)
unfolding seat
left_at c =
    let L = c.scan-lefts.ensures in
    let o : c.scan-lefts.result ≡ 1 = omega arith in
    (counted _ _ _ _ L ∙ o, c.wide.ensures ∙ only_place _ _ _ _ L o (omega arith))

right-at : (c : After-wide-to) → let s = c in let a = s.args in
    (length (places a.read.now a.right.now) ≡ 1) × (c.wide-to.result ≡ seat a.read.now a.right.now)
unfolding seat
right-at c =
    let L = c.scan-rights.ensures in
    let o : c.scan-rights.result ≡ 1 = omega arith in
    (counted _ _ _ _ L ∙ o, c.wide-to.ensures ∙ only_place _ _ _ _ L o (omega arith))

pub returns-then-lefts-eq0 : goal.returns-then-lefts-eq0
returns-then-lefts-eq0 c = sym (left_missing _ _ _ (counted _ _ _ _ c.scan-lefts.ensures ∙ c.if-lefts-eq0.true))

pub returns-then-rights-eq0 : goal.returns-then-rights-eq0
returns-then-rights-eq0 c = let n = counts (goal.at.returns-then-rights-eq0 c).Else-lefts-eq0 in sym (right_missing _ _ _ n.1 (n.2 ∙ c.if-rights-eq0.true))

pub returns-then-lefts-gt1 : goal.returns-then-lefts-gt1
returns-then-lefts-gt1 c =
    let e = c in
    let n = counts (goal.at.returns-then-lefts-gt1 c).Else-lefts-eq0 in
    sym (left_often _ _ _ (omega (arith, n.0, c.if-lefts-gt1.true)) (omega (arith, n.2, e.if-rights-eq0.false)))

pub returns-then-rights-gt1 : goal.returns-then-rights-gt1
returns-then-rights-gt1 c =
    let e = c in
    let n = counts (goal.at.returns-then-rights-gt1 c).Else-lefts-eq0 in
    sym (right_often _ _ _ (omega (arith, n.0, n.1, e.if-lefts-gt1.false)) (omega (arith, n.2, c.if-rights-gt1.true)))

pub returns-then-to-from : goal.returns-then-to-from
unfolding behind
returns-then-to-from c =
    let w = c in
    let l = left_at (goal.at.returns-then-to-from c).After-wide in
    let r = right-at (goal.at.returns-then-to-from c).After-wide-to in
    sym (out_of_order _ _ _ l.0 r.0 (omega (arith, l.1, r.1, c.if-to-from.true)))

pub returns : goal.returns
unfolding behind
returns c =
    let w = c in
    let l = left_at (goal.at.returns c).After-wide in
    let r = right-at (goal.at.returns c).After-wide-to in
    rw (l.1, r.1) (sym (in_order_lem _ _ _ l.0 r.0 (omega (arith, l.1, r.1, c.if-to-from.false))))
