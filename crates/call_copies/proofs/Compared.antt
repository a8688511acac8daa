-- Two stretches compared letter by letter: one other letter is a no, and past the read's end all letters are one. Assumes nothing.
use Prim.Native.Nat.{ℕ, ◌+◌, ◌<◌}
use mathlib.Core.Path.{◌≡◌, sym, ◌∙◌}
use mathlib.Core.Logic.{⊎_elim}
use mathlib.Core.Bool.{true, false}
use mathlib.Core.List.{List}
use native.Mathlib.Omega.{arith}
use lib.ListN.{length}
use Rattle.words.specs.Reads.{letter, alike}
use Rattle.words.proofs.Tests.{lt_or_ge}
use Rattle.words.proofs.Stretches.{Alike, alike_is, is_alike}
use Rattle.call_copies.proofs.Refuted.{test_refuted}
use Rattle.call_copies.proofs.Letters.{letter_past}

module _ (x : List ℕ) (w i d k : ℕ) where
  pub alike-differs : k < w → (letter x (i + k) ≡ letter x (i + d + k) → ⊥) → false ≡ alike x w i (i + d)
  alike-differs l ne = test_refuted (alike x w i (i + d)) (λ t. ne (alike_is x w i (i + d) t k l))

  pub alike_past : length x < i + k → Alike x k i (i + d) → true ≡ alike x w i (i + d)
  alike_past l a =
      sym
      (is_alike x w i (i + d)
      (λ m lm. ⊎_elim (λ h. a m h) (λ h. letter_past x (i + m) (omega arith) ∙ sym (letter_past x (i + d + m) (omega arith))) (lt_or_ge m k)))
