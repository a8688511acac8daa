-- Two results x and y at the arguments a, both allowed by the contract of the function as the source states it, are equal. Assumes nothing.
use mathlib.Core.Path.{◌≡◌, sym, ◌∙◌}
use Rattle.row_matches.proofs.begin.Reads as begin
use Rattle.row_matches.proofs.pass_line.Reads as pass-line
use Rattle.row_matches.proofs.ended.Reads as ended

pub begin_settled : (κs : _) (a : _) (x y : _) (e f : _) → begin.Learnt κs a x e → begin.Learnt κs a y f → x ≡ y
begin_settled κs a x y e f p q = p ∙ sym q

pub pass_line_settled : (κs : _) (a : _) (x y : _) (e f : _) → pass-line.Learnt κs a x e → pass-line.Learnt κs a y f → x ≡ y
pass_line_settled κs a x y e f p q = p ∙ sym q

pub ended_settled : (κs : _) (a : _) (x y : _) (e f : _) → ended.Learnt κs a x e → ended.Learnt κs a y f → x ≡ y
ended_settled κs a x y e f p q = p ∙ sym q
