-- Two results x and y at the arguments a, both allowed by the contract of the function as the source states it, are equal. Assumes nothing.
use mathlib.Core.Path.{◌≡◌, sym, ◌∙◌}
use Rattle.call_answers.proofs.refusal.Reads as refusal
use Rattle.call_answers.proofs.refused.Reads as refused
use Rattle.call_answers.proofs.counted.Reads as counted
use Rattle.call_answers.proofs.claimed.Reads as claimed
use Rattle.call_answers.proofs.taken.Reads as taken
use Rattle.call_answers.proofs.list_indexed.Reads as list-indexed
use Rattle.call_answers.proofs.looked.Reads as looked

pub refusal_settled : (κs : _) (a : _) (x y : _) (e f : _) → refusal.Learnt κs a x e → refusal.Learnt κs a y f → x ≡ y
refusal_settled κs a x y e f p q = p ∙ sym q

pub refused_settled : (κs : _) (a : _) (x y : _) (e f : _) → refused.Learnt κs a x e → refused.Learnt κs a y f → x ≡ y
refused_settled κs a x y e f p q = p ∙ sym q

pub counted_settled : (κs : _) (a : _) (x y : _) (e f : _) → counted.Learnt κs a x e → counted.Learnt κs a y f → x ≡ y
counted_settled κs a x y e f p q = p ∙ sym q

pub claimed_settled : (κs : _) (a : _) (x y : _) (e f : _) → claimed.Learnt κs a x e → claimed.Learnt κs a y f → x ≡ y
claimed_settled κs a x y e f p q = p ∙ sym q

pub taken_settled : (κs : _) (a : _) (x y : _) (e f : _) → taken.Learnt κs a x e → taken.Learnt κs a y f → x ≡ y
taken_settled κs a x y e f p q = p ∙ sym q

pub list_indexed_settled : (κs : _) (a : _) (x y : _) (e f : _) → list-indexed.Learnt κs a x e → list-indexed.Learnt κs a y f → x ≡ y
list_indexed_settled κs a x y e f p q = p ∙ sym q

pub looked_settled : (κs : _) (a : _) (x y : _) (e f : _) → looked.Learnt κs a x e → looked.Learnt κs a y f → x ≡ y
looked_settled κs a x y e f p q = p ∙ sym q
