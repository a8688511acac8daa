-- Two results x and y at the arguments a, both allowed by the contract of the function as the source states it, are equal; of a part that is handed back, its
-- numbers are. Assumes nothing.
use mathlib.Core.Path.{◌≡◌, sym, ◌∙◌}
use Rattle.bench_agrees.proofs.part_from.Reads as part-from
use Rattle.bench_agrees.proofs.agree_at.Reads as agree_at

pub part_from_settled : (κs : _) (a : _) (x y : _) (e f : _) → part-from.Learnt κs a x e → part-from.Learnt κs a y f → x.now ≡ y.now
part_from_settled κs a x y e f p q = p ∙ sym q

pub agree_at_settled : (κs : _) (a : _) (x y : _) (e f : _) → agree_at.Learnt κs a x e → agree_at.Learnt κs a y f → x ≡ y
agree_at_settled κs a x y e f p q = p ∙ sym q
