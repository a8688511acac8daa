-- Two results x and y at the arguments a, both allowed by the contract of the call as the source states it, are equal, and so is the lent slice
-- afterwards, in e and f. Assumes nothing.
use mathlib.Core.Path.{◌≡◌, sym, ◌∙◌}
use Rattle.call_replays.proofs.replay.Reads as replay
use Rattle.words.proofs.Said.{counted_once}

pub replay_settled : (κs : _) (a : _) (x y : _) (e f : _) → replay.Learnt κs a x e → replay.Learnt κs a y f → (x ≡ y) × (e.1.1.1.0.now ≡ f.1.1.1.0.now)
replay_settled κs a x y e f p q = (counted_once x y (p.0 ∙ sym q.0), p.1 ∙ sym q.1)
