-- Two results x and y at the arguments a, both allowed by the contract of the function as the source states it, are equal. Assumes nothing.
use mathlib.Core.Path.{◌≡◌, sym, ◌∙◌}
use Rattle.marker_answers.proofs.scored.Reads as scored

pub scored_settled : (κs : _) (a : _) (x y : _) (e f : _) → scored.Learnt κs a x e → scored.Learnt κs a y f → x ≡ y
scored_settled κs a x y e f p q = p ∙ sym q
