-- Two results x and y at the arguments a, both allowed by the contract of the call as the source states it, are equal. Assumes nothing.
use mathlib.Core.Path.{◌≡◌, sym, ◌∙◌}
use Rattle.call_claims.proofs.claim.Reads as claim
use Rattle.call_claims.proofs.motif.Reads as motif
use Rattle.call_claims.proofs.motif_part.Reads as motif-part
use Rattle.words_claims.proofs.Said.{claimed_once}

pub claim_settled : (κs : _) (a : _) (x y : _) (e f : _) → claim.Learnt κs a x e → claim.Learnt κs a y f → x ≡ y
claim_settled κs a x y e f p q = claimed_once x y (p ∙ sym q)

-- the same part of the read: it has the same bytes, and starts at the same place
pub motif_settled : (κs : _) (a : _) (x y : _) (e f : _) → motif.Learnt κs a x e → motif.Learnt κs a y f → (x.now ≡ y.now) × (x.ref_ptr ≡ y.ref_ptr)
motif_settled κs a x y e f p q = (p.0 ∙ sym q.0, λ j. ((p.1 ∙ sym q.1) j, (p.2 ∙ sym q.2) j))

pub motif_part_settled : (κs : _) (a : _) (x y : _) (e f : _) → motif-part.Learnt κs a x e → motif-part.Learnt κs a y f → x ≡ y
motif_part_settled κs a x y e f p q = p ∙ sym q
