-- The last line but one, in the case that list and groups agree and in the case that they differ. Assumes nothing.
use Prim.Native.Nat.{ℕ}
use mathlib.Core.Path.{◌≡◌}
use mathlib.Core.Logic.{◌≢◌}
use mathlib.Core.List.{◌++◌}
use borrow.Author.Tests.{eq-eqb, ne_eqb}
use Rattle.text_puts.specs.Ascii.{ascii}
use Rattle.text_puts.specs.Numbers.{newline, number_text}
use Rattle.text_views.specs.Views.{verdict_text}

module _ (w : ℕ) where
  pub verdict-agree : w ≡ 0 → verdict_text w ≡ ascii "list and groups agree at every width\n"
  unfolding verdict_text
  verdict-agree e = rw (eq-eqb w 0 e)

  pub verdict_differ : w ≢ 0 → verdict_text w ≡ ascii "list and groups differ at width " ++ number_text w newline
  unfolding verdict_text
  verdict_differ ne = rw (ne_eqb w 0 ne)
