-- Two results x and y at the arguments a, both allowed by the contract of the function as the source states it, are equal. Assumes nothing.
use mathlib.Core.Path.{◌≡◌, sym, ◌∙◌}
use Rattle.primer_judges.proofs.good_length.Reads as good_length
use Rattle.primer_judges.proofs.first_foreign.Reads as first-foreign

pub good_length_settled : (κs : _) (a : _) (x y : _) (e f : _) → good_length.Learnt κs a x e → good_length.Learnt κs a y f → x ≡ y
good_length_settled κs a x y e f p q = p ∙ sym q

pub first_foreign_settled : (κs : _) (a : _) (x y : _) (e f : _) → first-foreign.Learnt κs a x e → first-foreign.Learnt κs a y f → x ≡ y
first_foreign_settled κs a x y e f p q = p ∙ sym q
