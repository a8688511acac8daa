-- How a primer is judged: refusal 8, then 9, then what comes later. Assumes nothing.
use Prim.Native.Nat.{ℕ, ◌≤◌, ◌<◌}
use mathlib.Core.Path.{◌≡◌, refl}
use mathlib.Core.List.{List}
use lib.ListN.{length}
use borrow.Author.Tests.{lt-ltb, le-ltb}
use Rattle.words.specs.Answers.{Answer, refusal}
use Rattle.words.specs.Calls.{refuse}
use Rattle.words.proofs.Within.{within_yes, within_no}
use Rattle.words_primers.specs.Primers.{longest, first_foreign}
use Rattle.words_primers.specs.Calls.{judged}
use Rattle.words_primers.proofs.Turning.{BadLength}

module _ (u : List ℕ) (later : Answer) where
  pub length-judged : BadLength u → judged u later ≡ refusal 8 (length u)
  unfolding judged refuse
  length-judged h = rw (within_no 1 longest (length u) h) refl

  pub foreign-judged : 1 ≤ length u → length u ≤ longest → first_foreign u < length u → judged u later ≡ refusal 9 (first_foreign u)
  unfolding judged refuse
  foreign-judged some few h = rw (within_yes 1 longest (length u) some few, lt-ltb (first_foreign u) (length u) h) refl

  pub good-judged : 1 ≤ length u → length u ≤ longest → length u ≤ first_foreign u → judged u later ≡ later
  unfolding judged refuse
  good-judged some few h = rw (within_yes 1 longest (length u) some few, le-ltb (first_foreign u) (length u) h) refl
