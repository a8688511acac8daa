-- Two results x and y at the arguments a, both allowed by the contract of the function as the source states it, are equal, and so is the lent
-- slice afterwards, in e and f. Assumes nothing.
use mathlib.Core.Path.{◌≡◌, sym, ◌∙◌}
use Rattle.read_edges.proofs.top_of.Reads as top_of
use Rattle.read_edges.proofs.copy_names.Reads as copy-names

pub top_of_settled : (κs : _) (a : _) (x y : _) (e f : _) → top_of.Learnt κs a x e → top_of.Learnt κs a y f → x ≡ y
top_of_settled κs a x y e f p q = p ∙ sym q

pub copy_names_settled : (κs : _) (a : _) (x y : _) (e f : _) → copy-names.Learnt κs a x e → copy-names.Learnt κs a y f → e.0.now ≡ f.0.now
copy_names_settled κs a x y e f p q = p ∙ sym q
