-- Two results x and y at the arguments a, both allowed by the contract of the function as the source states it, are equal, and so is the
-- buffer afterwards, in e and f. Assumes nothing.
use mathlib.Core.Path.{◌≡◌, sym, ◌∙◌}
use Rattle.text_views.proofs.put_width.Reads as put-width
use Rattle.text_views.proofs.put_head.Reads as put-head
use Rattle.text_views.proofs.put_verdict.Reads as put-verdict
use Rattle.text_views.proofs.put_accord.Reads as put-accord

pub put_width_settled : (κs : _) (a : _) (x y : _) (e f : _) → put-width.Learnt κs a x e → put-width.Learnt κs a y f → (x ≡ y) × (e.0.now ≡ f.0.now)
put_width_settled κs a x y e f p q = (p.stop ∙ sym q.stop, p.bytes ∙ sym q.bytes)

pub put_head_settled : (κs : _) (a : _) (x y : _) (e f : _) → put-head.Learnt κs a x e → put-head.Learnt κs a y f → (x ≡ y) × (e.0.now ≡ f.0.now)
put_head_settled κs a x y e f p q = (p.stop ∙ sym q.stop, p.bytes ∙ sym q.bytes)

pub put_verdict_settled : (κs : _) (a : _) (x y : _) (e f : _) → put-verdict.Learnt κs a x e → put-verdict.Learnt κs a y f → (x ≡ y) × (e.0.now ≡ f.0.now)
put_verdict_settled κs a x y e f p q = (p.stop ∙ sym q.stop, p.bytes ∙ sym q.bytes)

pub put_accord_settled : (κs : _) (a : _) (x y : _) (e f : _) → put-accord.Learnt κs a x e → put-accord.Learnt κs a y f → (x ≡ y) × (e.0.now ≡ f.0.now)
put_accord_settled κs a x y e f p q = (p.stop ∙ sym q.stop, p.bytes ∙ sym q.bytes)
