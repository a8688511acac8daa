-- Two results x and y at the arguments a, both allowed by the contract of the function as the source states it, are equal, and so is the
-- buffer afterwards, in e and f. Assumes nothing.
use mathlib.Core.Path.{◌≡◌, sym, ◌∙◌}
use Rattle.text_puts.proofs.put_word.Reads as put_word
use Rattle.text_puts.proofs.put_number.Reads as put-number
use Rattle.text_puts.proofs.put_numbers.Reads as put-numbers

pub put_word_settled : (κs : _) (a : _) (x y : _) (e f : _) → put_word.Learnt κs a x e → put_word.Learnt κs a y f → (x ≡ y) × (e.0.now ≡ f.0.now)
put_word_settled κs a x y e f p q = (p.stop ∙ sym q.stop, p.bytes ∙ sym q.bytes)

pub put_number_settled : (κs : _) (a : _) (x y : _) (e f : _) → put-number.Learnt κs a x e → put-number.Learnt κs a y f → (x ≡ y) × (e.0.now ≡ f.0.now)
put_number_settled κs a x y e f p q = (p.stop ∙ sym q.stop, p.bytes ∙ sym q.bytes)

pub put_numbers_settled : (κs : _) (a : _) (x y : _) (e f : _) → put-numbers.Learnt κs a x e → put-numbers.Learnt κs a y f → (x ≡ y) × (e.0.now ≡ f.0.now)
put_numbers_settled κs a x y e f p q = (p.stop ∙ sym q.stop, p.bytes ∙ sym q.bytes)
