-- Two results x and y at the arguments a, both allowed by the contract of the call as the source states it, are equal. Assumes nothing.
use mathlib.Core.Path.{◌≡◌, sym, ◌∙◌}
use Rattle.words_markers.proofs.Said.{said_once}
use Rattle.marker_calls.proofs.score.Reads as score
use Rattle.marker_calls.proofs.shown.Reads as shown
use Rattle.marker_calls.proofs.shown_part.Reads as shown-part

pub score_settled : (κs : _) (a : _) (x y : _) (e f : _) → score.Learnt κs a x e → score.Learnt κs a y f → x ≡ y
score_settled κs a x y e f p q = said_once x y (p ∙ sym q)

-- the same part of the same slice: it has the same bytes, and starts at the same place
pub shown_settled : (κs : _) (a : _) (x y : _) (e f : _) → shown.Learnt κs a x e → shown.Learnt κs a y f → (x.now ≡ y.now) × (x.ref_ptr ≡ y.ref_ptr)
shown_settled κs a x y e f p q = (p.0 ∙ sym q.0, λ j. ((p.1 ∙ sym q.1) j, (p.2 ∙ sym q.2) j))

pub shown_part_settled : (κs : _) (a : _) (x y : _) (e f : _) → shown-part.Learnt κs a x e → shown-part.Learnt κs a y f → x ≡ y
shown_part_settled κs a x y e f p q = p ∙ sym q
