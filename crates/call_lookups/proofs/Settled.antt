-- Two results x and y at the arguments a, both allowed by the contract of the call as the source states it, are equal. Assumes nothing.
use mathlib.Core.Path.{◌≡◌, sym, ◌∙◌}
use Rattle.call_lookups.proofs.lookup.Reads as lookup

pub lookup_settled : (κs : _) (a : _) (x y : _) (e f : _) → lookup.Learnt κs a x e → lookup.Learnt κs a y f → x ≡ y
lookup_settled κs a x y e f p q = p ∙ sym q
