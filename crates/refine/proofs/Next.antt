-- The table after a queue has moved: a table of least names, whose groups are parts of the old ones. Assumes nothing.
use Prim.Native.Nat.{ℕ, ◌≤◌}
use mathlib.Core.Path.{◌≡◌, refl, sym, ◌∙◌}
use mathlib.Core.Bool.{true}
use mathlib.Core.List.{List}
use native.Mathlib.Omega.{arith}
use lib.ListN.{length}
use lib.Dec.{eqb}
use borrow.Author.Tests.{eqb-true, eq-eqb}
use Rattle.words.specs.Range.{leader}
use Rattle.words.specs.Reads.{at}
use Rattle.words.proofs.Tests.{and_left, and_right}
use Rattle.words.proofs.Ranges.{length-column}
use Rattle.words.proofs.Leaders.{Equivalence, leaders-least, leaders-test}
use Rattle.words.specs.Groups.{Least}
use Rattle.words.proofs.Small.{Refines}
use Rattle.refine.specs.Refine.{leaves, together, next_of}

module _ (t Q : List ℕ) where
  together_is : (i j : ℕ) → together t Q i j ≡ true → (at t i ≡ at t j) × (leaves t Q i ≡ leaves t Q j)
  unfolding together
  together_is i j h = (
    eqb-true (at t i) (at t j) (and_left (eqb (at t i) (at t j)) (eqb (leaves t Q i) (leaves t Q j)) h),
    eqb-true (leaves t Q i) (leaves t Q j) (and_right (eqb (at t i) (at t j)) (eqb (leaves t Q i) (leaves t Q j)) h),
  )

  is_together : (i j : ℕ) → at t i ≡ at t j → leaves t Q i ≡ leaves t Q j → together t Q i j ≡ true
  unfolding together
  is_together i j e l = rw (eq-eqb (at t i) (at t j) e, eq-eqb (leaves t Q i) (leaves t Q j) l)

  together_equivalence : Equivalence (together t Q)
  together_equivalence =
      record {
        same = λ i. is_together i i refl refl;
        turn = λ i j h. let s = together_is i j h in is_together j i (sym s.0) (sym s.1);
        join = λ i j k g h. let s = together_is i j g in let r = together_is j k h in is_together i k (s.0 ∙ r.0) (s.1 ∙ r.1);
      }

  pub next-length : length (next_of t Q) ≡ length t
  unfolding next_of
  next-length = length-column (leader (together t Q)) (length t)

  pub next-least : Least (next_of t Q)
  unfolding next_of
  next-least = leaders-least (together t Q) together_equivalence (length t)

  next-test : (i j : ℕ) → 1 ≤ i → i ≤ length t → 1 ≤ j → j ≤ length t → eqb (at (next_of t Q) i) (at (next_of t Q) j) ≡ together t Q i j
  unfolding next_of
  next-test i j a b c d = leaders-test (together t Q) together_equivalence (length t) i j a b c d

  -- two positions have one name afterwards if and only if they had one before and leave alike
  module _ (i j : ℕ) (a : 1 ≤ i) (b : i ≤ length t) (c : 1 ≤ j) (d : j ≤ length t) where
    pub next-same : at (next_of t Q) i ≡ at (next_of t Q) j → (at t i ≡ at t j) × (leaves t Q i ≡ leaves t Q j)
    next-same e = together_is i j (sym (next-test i j a b c d) ∙ eq-eqb (at (next_of t Q) i) (at (next_of t Q) j) e)

    pub same_next : at t i ≡ at t j → leaves t Q i ≡ leaves t Q j → at (next_of t Q) i ≡ at (next_of t Q) j
    same_next e l = eqb-true (at (next_of t Q) i) (at (next_of t Q) j) (next-test i j a b c d ∙ is_together i j e l)

-- groups are only split
pub next_refines : (t Q : List ℕ) → Refines t (next_of t Q)
next_refines t Q =
    record {
      long = sym (next-length t Q);
      splits = λ i j a b c d e. (next-same t Q i j a (omega (arith, next-length t Q)) c (omega (arith, next-length t Q)) e).0;
    }
