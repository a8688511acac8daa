-- `marker_seats::seat` meets its contract: each return is the definition's, way by way. Assumes nothing.
use mathlib.Core.Path.{◌≡◌, sym, ◌∙◌}
use mathlib.Core.Bool.{true}
use lib.ListN.{length}
use Rattle.words.specs.Logs.{within}
use Rattle.words.proofs.Within.{within_is}
use Rattle.words_primers.specs.Primers.{longest}
use Rattle.words_markers.proofs.Seating.{too_long_lem, left-length, right_length, left-foreign, right_foreign, judged-seats}
use Rattle.read_edges.proofs.Refused.{too_long_handed}
use Rattle.marker_seats.proofs.seat.Goals.{Else-not-good_length, Else-not-good_length-2}
use Rattle.marker_seats.proofs.seat.Goals as goal

-- the lengths that passed
good_left : (c : Else-not-good_length) → let s = c in within 1 longest (length s.args.left.now) ≡ true
good_left c = sym c.good_length.ensures ∙ c.if-not-good_length.false

good_right : (c : Else-not-good_length-2) → let s = c in within 1 longest (length s.args.right.now) ≡ true
good_right c = sym c.good_length-2.ensures ∙ c.if-not-good_length-2.false

pub returns-in_err-check_length : goal.returns-in_err-check_length
returns-in_err-check_length c = let l = c.in_err-check_length.ensures.err in too_long_handed _ _ _ c.from_residual.ensures.1 l ∙ sym (too_long_lem _ _ _ l.0)

pub returns-then-not-good_length : goal.returns-then-not-good_length
returns-then-not-good_length c = let g = c in sym (left-length _ _ _ g.in_ok-check_length.ensures.ok (sym g.good_length.ensures ∙ c.if-not-good_length.true))

pub returns-then-not-good_length-2 : goal.returns-then-not-good_length-2
returns-then-not-good_length-2 c =
    let g = c in
    let h = g in
    sym (right_length _ _ _ h.in_ok-check_length.ensures.ok (good_left (goal.at.returns-then-not-good_length-2 c).Else-not-good_length) (sym g.good_length-2.ensures ∙ c.if-not-good_length-2.true))

pub returns-then-foreign-left : goal.returns-then-foreign-left
returns-then-foreign-left c =
    let f = c in
    let g = f in
    let h = g in
    rw f.first_foreign-foreign.ensures (sym (left-foreign _ _ _ h.in_ok-check_length.ensures.ok (good_left (goal.at.returns-then-foreign-left c).Else-not-good_length) (good_right (goal.at.returns-then-foreign-left c).Else-not-good_length-2) (rw f.first_foreign-foreign.ensures at c.if-foreign-left.true)))

pub returns-then-strange-right : goal.returns-then-strange-right
returns-then-strange-right c =
    let r = c in
    let f = r in
    let g = f in
    let h = g in
    rw r.first_foreign-strange.ensures
    (sym (right_foreign _ _ _ h.in_ok-check_length.ensures.ok (good_left (goal.at.returns-then-strange-right c).Else-not-good_length) (good_right (goal.at.returns-then-strange-right c).Else-not-good_length-2) (rw f.first_foreign-foreign.ensures at r.if-foreign-left.false) (rw r.first_foreign-strange.ensures at c.if-strange-right.true)))

pub seat_both-requires : goal.seat_both-requires
seat_both-requires c =
    let g = c in
    let h = g in
    let l = within_is _ _ _ (good_left (goal.at.seat_both-requires c).Else-not-good_length) in
    let r = within_is _ _ _ (good_right (goal.at.seat_both-requires c).Else-not-good_length-2) in
    (h.in_ok-check_length.ensures.ok, l.0, l.1, r.0, r.1)

pub returns : goal.returns
returns c =
    let e = c in
    let r = e in
    let f = r in
    let g = f in
    let h = g in
    c.seat_both.ensures
    ∙ sym (judged-seats _ _ _ h.in_ok-check_length.ensures.ok (good_left (goal.at.returns c).Else-not-good_length) (good_right (goal.at.returns c).Else-not-good_length-2) (rw f.first_foreign-foreign.ensures at r.if-foreign-left.false) (rw r.first_foreign-strange.ensures at e.if-strange-right.false))
