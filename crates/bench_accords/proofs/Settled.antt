-- Two results x and y at the arguments a, both allowed by the contract of the function as the source states it, are equal. Assumes nothing.
use mathlib.Core.Path.{◌≡◌, sym, ◌∙◌}
use Rattle.bench_accords.proofs.runs_agree.Reads as runs-agree

pub runs_agree_settled : (κs : _) (a : _) (x y : _) (e f : _) → runs-agree.Learnt κs a x e → runs-agree.Learnt κs a y f → x ≡ y
runs_agree_settled κs a x y e f p q = p ∙ sym q
