-- The name of an old group is kept where a new part of it begins. Assumes nothing.
use Prim.Native.Nat.{ℕ}
use mathlib.Core.Path.{◌≡◌, sym, ◌∙◌}
use mathlib.Core.Logic.{⊎_elim}
use mathlib.Core.Bool.{Bool, true, false, not}
use mathlib.Core.List.{List}
use lib.ListN.{length}
use borrow.Author.Tests.{not-true, not-false}
use Rattle.words.specs.Reads.{at}
use Rattle.words.proofs.Tests.{either}
use Rattle.slots.specs.Slots.{put}
use Rattle.slots.proofs.Laws.{put-length}
use Rattle.call_names.specs.Heads.{joined, part_of}

pub part_of_length : (lead mark part : List ℕ) (k i : ℕ) → length (part_of lead mark part k i) ≡ length part
unfolding part_of
part_of_length lead mark part k i = ⊎_elim (λ e. rw e) (λ e. rw e (put-length part i k)) (either (joined mark (at lead k) i))

-- the test r says whether a new part begins
module _ (lead mark part : List ℕ) (k i : ℕ) (r : Bool) (is : r ≡ not (joined mark (at lead k) i)) where
  pub part_new : r ≡ true → part_of lead mark part k i ≡ put part i k
  unfolding part_of
  part_new e = rw (not-true (joined mark (at lead k) i) (sym is ∙ e))

  pub part-old : r ≡ false → part_of lead mark part k i ≡ part
  unfolding part_of
  part-old e = rw (not-false (joined mark (at lead k) i) (sym is ∙ e))
