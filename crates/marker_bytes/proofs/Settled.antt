-- Two results x and y at the arguments a, both allowed by the contract of the function as the source states it, are equal. Assumes nothing.
use mathlib.Core.Path.{◌≡◌, sym, ◌∙◌}
use Rattle.marker_bytes.proofs.same_bytes.Reads as same_bytes

pub same_bytes_settled : (κs : _) (a : _) (x y : _) (e f : _) → same_bytes.Learnt κs a x e → same_bytes.Learnt κs a y f → x ≡ y
same_bytes_settled κs a x y e f p q = p ∙ sym q
