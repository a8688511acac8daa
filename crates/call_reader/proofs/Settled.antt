-- Two results x and y at the arguments a, both allowed by the contract of the call as the source states it, are equal, and so is the reader
-- afterwards, in e and f. Assumes nothing.
use mathlib.Core.Path.{◌≡◌, sym, ◌∙◌}
use Rattle.call_reader.proofs.take_at.Reads as take_at
use Rattle.call_reader.proofs.call_once.Reads as call-once
use Rattle.call_reader.proofs.LogReader.new.Reads as new
use Rattle.call_reader.proofs.LogReaderIterator.next.Reads as next

pub take_at_settled : (κs : _) (a : _) (x y : _) (e f : _) → take_at.Learnt κs a x e → take_at.Learnt κs a y f → x ≡ y
take_at_settled κs a x y e f p q = p ∙ sym q

pub call_once_settled : (κs : _) (a : _) (x y : _) (e f : _) → call-once.Learnt κs a x e → call-once.Learnt κs a y f → x ≡ y
call_once_settled κs a x y e f p q = p ∙ sym q

pub new_settled : (κs : _) (a : _) (x y : _) (e f : _) → new.Learnt κs a x e → new.Learnt κs a y f → x ≡ y
new_settled κs a x y e f p q = p ∙ sym q

-- the entry, and the reader afterwards
pub next_settled : (κs : _) (a : _) (x y : _) (e f : _) → next.Learnt κs a x e → next.Learnt κs a y f → (x ≡ y) × (e.0.now ≡ f.0.now)
next_settled κs a x y e f p q = (p.0.0 ∙ sym q.0.0, p.0.1 ∙ sym q.0.1)
