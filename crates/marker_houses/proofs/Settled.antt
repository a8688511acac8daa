-- Two results x and y at the arguments a, both allowed by the contract of the function as the source states it, are equal. Assumes nothing.
use mathlib.Core.Path.{◌≡◌, sym, ◌∙◌}
use Rattle.marker_houses.proofs.house_place.Reads as house-place

pub house_place_settled : (κs : _) (a : _) (x y : _) (e f : _) → house-place.Learnt κs a x e → house-place.Learnt κs a y f → x ≡ y
house_place_settled κs a x y e f p q = p ∙ sym q
