-- Two results x and y at the arguments a, both allowed by the contract of the function as the source states it, are equal. Assumes nothing.
use mathlib.Core.Path.{◌≡◌, sym, ◌∙◌}
use Rattle.call_copies.proofs.copies_at.Reads as copies_at
use Rattle.call_copies.proofs.root_at.Reads as root-at
use Rattle.call_copies.proofs.is_leading.Reads as is_leading

pub copies_at_settled : (κs : _) (a : _) (x y : _) (e f : _) → copies_at.Learnt κs a x e → copies_at.Learnt κs a y f → x ≡ y
copies_at_settled κs a x y e f p q = p ∙ sym q

pub root_at_settled : (κs : _) (a : _) (x y : _) (e f : _) → root-at.Learnt κs a x e → root-at.Learnt κs a y f → x ≡ y
root_at_settled κs a x y e f p q = p ∙ sym q

pub is_leading_settled : (κs : _) (a : _) (x y : _) (e f : _) → is_leading.Learnt κs a x e → is_leading.Learnt κs a y f → x ≡ y
is_leading_settled κs a x y e f p q = p ∙ sym q
