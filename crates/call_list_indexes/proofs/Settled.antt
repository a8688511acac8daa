-- Two results x and y at the arguments a, both allowed by the contract of the call as the source states it, are equal, and so are the lent slices
-- afterwards, in e and f. Assumes nothing.
use mathlib.Core.Path.{◌≡◌, sym, ◌∙◌}
use Rattle.call_list_indexes.proofs.list_index.Reads as list_index
use Rattle.words_index.proofs.Said.{list_indexed_once}

pub list_index_settled : (κs : _) (a : _) (x y : _) (e f : _) → list_index.Learnt κs a x e → list_index.Learnt κs a y f →
    (x ≡ y) × (e.1.1.0.now ≡ f.1.1.0.now) × (e.1.1.1.0.now ≡ f.1.1.1.0.now)
list_index_settled κs a x y e f p q = (list_indexed_once x y (p.0 ∙ sym q.0), p.1 ∙ sym q.1, p.2 ∙ sym q.2)
