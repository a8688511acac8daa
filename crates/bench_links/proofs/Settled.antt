-- Two results x and y at the arguments a, both allowed by the contract of the function as the source states it, are equal. Assumes nothing.
use mathlib.Core.Path.{◌≡◌, sym, ◌∙◌}
use Rattle.bench_links.proofs.Links.first_of.Reads as first_of
use Rattle.bench_links.proofs.Links.next_of.Reads as next_of

pub first_of_settled : (κs : _) (a : _) (x y : _) (e f : _) → first_of.Learnt κs a x e → first_of.Learnt κs a y f → x ≡ y
first_of_settled κs a x y e f p q = p ∙ sym q

pub next_of_settled : (κs : _) (a : _) (x y : _) (e f : _) → next_of.Learnt κs a x e → next_of.Learnt κs a y f → x ≡ y
next_of_settled κs a x y e f p q = p ∙ sym q
