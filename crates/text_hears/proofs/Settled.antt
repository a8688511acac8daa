-- Two results x and y at the arguments a, both allowed by the contract of the function as the source states it, are equal, and so is the list's slice
-- afterwards, in e and f, for whatever line it was. Assumes nothing.
use mathlib.Core.Path.{◌≡◌, sym, ap, ◌∙◌}
use mathlib.Core.List.{List}
use Rattle.words.specs.Lists.{lines, in_mode}
use Rattle.words.specs.Answers.{Answer}
use Rattle.words.specs.Calls.{list_afterwards}
use Rattle.words.proofs.Said.{counted_once}
use Rattle.text_lines.specs.Lines.{Keeps}
use Rattle.text_hears.proofs.hear.Reads as hear

pub hear_settled : (κs : _) (a : _) (x y : _) (e f : _) → hear.Learnt κs a x e → hear.Learnt κs a y f → (l : List _) →
    Keeps l a.1.0 a.0.now → (x ≡ y) × (e.1.1.0.now ≡ f.1.1.0.now)
hear_settled κs a x y e f p q l k =
    let s = p.says l k ∙ sym (q.says l k) in
    (counted_once x y s, p.leaves l k ∙ ap (λ (v : Answer). list_afterwards v (lines l (in_mode l 0)) a.1.1.0.now) s ∙ sym (q.leaves l k))
