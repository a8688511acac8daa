-- Each text that the code puts only on some condition, in the case that it is put and in the case that it is not. Assumes nothing.
use Prim.Native.Nat.{ℕ, ◌<◌, ◌≤◌}
use mathlib.Core.Path.{◌≡◌}
use mathlib.Core.Bool.{Bool, true, false}
use mathlib.Core.List.{List, [], ◌++◌}
use lib.ListN.{length}
use borrow.Author.Tests.{le-leb, lt-leb}
use Rattle.words.specs.Range.{count}
use Rattle.words.specs.Groups.{size}
use Rattle.text_puts.specs.Ascii.{ascii}
use Rattle.text_puts.specs.Numbers.{number_text}
use Rattle.text_groups.specs.Groups.{colon, spaced, shown, members_text, group_text, alone, singles_text, alone_text}

module _ (n : ℕ) {test : Bool} where
  pub shown_yes : test ≡ true → shown test n ≡ spaced n
  unfolding shown
  shown_yes e = rw e

  pub shown_no : test ≡ false → shown test n ≡ []
  unfolding shown
  shown_no e = rw e

module _ (t : List ℕ) (s : ℕ) where
  pub group_some : 2 ≤ size t s → group_text t s ≡ ascii "  group " ++ number_text s colon ++ members_text t s ++ ascii "\n"
  unfolding group_text
  group_some h = rw (le-leb 2 (size t s) h)

  pub group_none : size t s < 2 → group_text t s ≡ []
  unfolding group_text
  group_none h = rw (lt-leb 2 (size t s) h)

module _ (t : List ℕ) where
  pub alone-some : 1 ≤ count (alone t) (length t) 1 → alone_text t ≡ ascii "  alone:" ++ singles_text t ++ ascii "\n"
  unfolding alone_text
  alone-some h = rw (le-leb 1 (count (alone t) (length t) 1) h)

  pub alone-none : count (alone t) (length t) 1 < 1 → alone_text t ≡ []
  unfolding alone_text
  alone-none h = rw (lt-leb 1 (count (alone t) (length t) 1) h)
