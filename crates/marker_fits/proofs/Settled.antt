-- Two results x and y at the arguments a, both allowed by the contract of the function as the source states it, are equal. Assumes nothing.
use mathlib.Core.Path.{◌≡◌, sym, ◌∙◌}
use Rattle.marker_fits.proofs.fit.Reads as fit

pub fit_settled : (κs : _) (a : _) (x y : _) (e f : _) → fit.Learnt κs a x e → fit.Learnt κs a y f → x ≡ y
fit_settled κs a x y e f p q = p ∙ sym q
