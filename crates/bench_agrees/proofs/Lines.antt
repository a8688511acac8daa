-- The line of one position: none where it is no start, and else the one that its copies make. Assumes nothing.
use Prim.Native.Nat.{ℕ}
use mathlib.Core.Path.{◌≡◌}
use mathlib.Core.Logic.{◌≢◌}
use mathlib.Core.List.{List, []}
use borrow.Author.Tests.{eq-eqb, ne_eqb}
use Rattle.words.specs.Groups.{gap}
use Rattle.words.specs.Lists.{line_of}
use Rattle.bench_agrees.specs.Agreement.{starts, copies_in, line_in}

module _ (t : List ℕ) (p i : ℕ) where
  pub line-none : gap t i ≢ p → line_in t p i ≡ []
  unfolding line_in starts
  line-none ne = rw (ne_eqb (gap t i) p ne)

  pub line-some : gap t i ≡ p → line_in t p i ≡ line_of i p (copies_in t p i)
  unfolding line_in starts
  line-some e = rw (eq-eqb (gap t i) p e)
