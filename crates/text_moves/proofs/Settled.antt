-- Two results x and y at the arguments a, both allowed by the contract of the function as the source states it, are equal, and so is the
-- buffer afterwards, in e and f. Assumes nothing.
use mathlib.Core.Path.{◌≡◌, sym, ◌∙◌}
use Rattle.text_moves.proofs.put_moves.Reads as put-moves

pub put_moves_settled : (κs : _) (a : _) (x y : _) (e f : _) → put-moves.Learnt κs a x e → put-moves.Learnt κs a y f → (x ≡ y) × (e.0.now ≡ f.0.now)
put_moves_settled κs a x y e f p q = (p.stop ∙ sym q.stop, p.bytes ∙ sym q.bytes)
