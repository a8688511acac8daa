-- Two results x and y at the arguments a, both allowed by the contract of the function as the source states it, are equal. Assumes nothing.
use mathlib.Core.Path.{◌≡◌, sym, ◌∙◌}
use Rattle.marker_seats.proofs.seat.Reads as seat

pub seat_settled : (κs : _) (a : _) (x y : _) (e f : _) → seat.Learnt κs a x e → seat.Learnt κs a y f → x ≡ y
seat_settled κs a x y e f p q = p ∙ sym q
