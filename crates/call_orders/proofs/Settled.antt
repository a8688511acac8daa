-- Two results x and y at the arguments a, both allowed by the contract of the function as the source states it, are equal. Assumes nothing.
use mathlib.Core.Path.{◌≡◌, sym, ◌∙◌}
use Rattle.call_orders.proofs.first_loose.Reads as first-loose
use Rattle.call_orders.proofs.in_order.Reads as in_order

pub first_loose_settled : (κs : _) (a : _) (x y : _) (e f : _) → first-loose.Learnt κs a x e → first-loose.Learnt κs a y f → x ≡ y
first_loose_settled κs a x y e f p q = p ∙ sym q

pub in_order_settled : (κs : _) (a : _) (x y : _) (e f : _) → in_order.Learnt κs a x e → in_order.Learnt κs a y f → x ≡ y
in_order_settled κs a x y e f p q = p ∙ sym q
