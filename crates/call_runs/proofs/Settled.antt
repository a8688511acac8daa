-- Two results x and y at the arguments a, both allowed by the contract of the call as the source states it, are equal, and so is the lent slice
-- afterwards, in e and f. Assumes nothing.
use mathlib.Core.Path.{◌≡◌, sym, ◌∙◌}
use Rattle.call_runs.proofs.runs.Reads as runs
use Rattle.words.proofs.Said.{counted_once}

pub runs_settled : (κs : _) (a : _) (x y : _) (e f : _) → runs.Learnt κs a x e → runs.Learnt κs a y f → (x ≡ y) × (e.1.0.now ≡ f.1.0.now)
runs_settled κs a x y e f p q = (counted_once x y (p.0 ∙ sym q.0), p.1 ∙ sym q.1)
