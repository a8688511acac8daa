-- Two results x and y at the arguments a, both allowed by the contract of the call as the source states it, are equal, and so is the lent slice
-- afterwards, in e and f. Assumes nothing.
use mathlib.Core.Path.{◌≡◌, sym, ◌∙◌}
use Rattle.call_primers.proofs.find_primer.Reads as find-primer
use Rattle.call_primers.proofs.reverse_complement.Reads as reverse-complement
use Rattle.words.proofs.Said.{counted_once}

pub find_primer_settled : (κs : _) (a : _) (x y : _) (e f : _) → find-primer.Learnt κs a x e → find-primer.Learnt κs a y f → (x ≡ y) × (e.1.1.0.now ≡ f.1.1.0.now)
find_primer_settled κs a x y e f p q = (counted_once x y (p.0 ∙ sym q.0), p.1 ∙ sym q.1)

pub reverse_complement_settled : (κs : _) (a : _) (x y : _) (e f : _) → reverse-complement.Learnt κs a x e → reverse-complement.Learnt κs a y f → (x ≡ y) × (e.1.0.now ≡ f.1.0.now)
reverse_complement_settled κs a x y e f p q = (counted_once x y (p.0 ∙ sym q.0), p.1 ∙ sym q.1)
