-- Two results x and y at the arguments a, both allowed by the contract of the function as the source states it, are equal. Assumes nothing.
use mathlib.Core.Path.{◌≡◌, sym, ◌∙◌}
use Rattle.base_sets.proofs.letter_sets.Reads as letter-sets
use Rattle.base_sets.proofs.set_in.Reads as set-in
use Rattle.base_sets.proofs.set_of.Reads as set-of
use Rattle.base_sets.proofs.matches.Reads as matches
use Rattle.base_sets.proofs.turn.Reads as turn

pub letter_sets_settled : (κs : _) (a : _) (x y : _) (e f : _) → letter-sets.Learnt κs a x e → letter-sets.Learnt κs a y f → x ≡ y
letter_sets_settled κs a x y e f p q = p ∙ sym q

pub set_in_settled : (κs : _) (a : _) (x y : _) (e f : _) → set-in.Learnt κs a x e → set-in.Learnt κs a y f → x ≡ y
set_in_settled κs a x y e f p q = p.0 ∙ sym q.0

pub set_of_settled : (κs : _) (a : _) (x y : _) (e f : _) → set-of.Learnt κs a x e → set-of.Learnt κs a y f → x ≡ y
set_of_settled κs a x y e f p q = p.0 ∙ sym q.0

pub matches_settled : (κs : _) (a : _) (x y : _) (e f : _) → matches.Learnt κs a x e → matches.Learnt κs a y f → x ≡ y
matches_settled κs a x y e f p q = p ∙ sym q

pub turn_settled : (κs : _) (a : _) (x y : _) (e f : _) → turn.Learnt κs a x e → turn.Learnt κs a y f → x ≡ y
turn_settled κs a x y e f p q = p ∙ sym q
