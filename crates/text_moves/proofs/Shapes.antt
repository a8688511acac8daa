-- Each text that the code puts only on some condition, in the case that it is put and in the case that it is not. Assumes nothing.
use Prim.Native.Nat.{ℕ}
use mathlib.Core.Path.{◌≡◌}
use mathlib.Core.Bool.{true, false}
use mathlib.Core.List.{List, [], ◌++◌}
use Rattle.words.specs.Moves.{name_of}
use Rattle.text_puts.specs.Ascii.{ascii}
use Rattle.text_puts.specs.Numbers.{number_text}
use Rattle.text_groups.specs.Groups.{colon}
use Rattle.text_moves.specs.Moves.{begins, ends, under_text, end_text}

module _ (l : List ℕ) (k : ℕ) where
  pub under_first : begins l k ≡ true → under_text l k ≡ ascii "  moved under " ++ number_text (name_of l k) colon
  unfolding under_text
  under_first e = rw e

  pub under_later : begins l k ≡ false → under_text l k ≡ []
  unfolding under_text
  under_later e = rw e

  pub end_last : ends l k ≡ true → end_text l k ≡ ascii "\n"
  unfolding end_text
  end_last e = rw e

  pub end_earlier : ends l k ≡ false → end_text l k ≡ []
  unfolding end_text
  end_earlier e = rw e
