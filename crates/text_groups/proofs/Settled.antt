-- Two results x and y at the arguments a, both allowed by the contract of the function as the source states it, are equal, and so is the
-- buffer afterwards, in e and f. Assumes nothing.
use mathlib.Core.Path.{◌≡◌, sym, ◌∙◌}
use Rattle.text_groups.proofs.put_spaced.Reads as put-spaced
use Rattle.text_groups.proofs.put_table.Reads as put-table

pub put_spaced_settled : (κs : _) (a : _) (x y : _) (e f : _) → put-spaced.Learnt κs a x e → put-spaced.Learnt κs a y f → (x ≡ y) × (e.0.now ≡ f.0.now)
put_spaced_settled κs a x y e f p q = (p.stop ∙ sym q.stop, p.bytes ∙ sym q.bytes)

pub put_table_settled : (κs : _) (a : _) (x y : _) (e f : _) → put-table.Learnt κs a x e → put-table.Learnt κs a y f → (x ≡ y) × (e.0.now ≡ f.0.now)
put_table_settled κs a x y e f p q = (p.stop ∙ sym q.stop, p.bytes ∙ sym q.bytes)
