-- The starts that stand side by side, as the code walks them: each is one, and the last has none after it. Assumes nothing.
use Prim.Native.Nat.{ℕ, suc, ◌+◌, ◌-◌, ◌≤◌, ◌<◌}
use mathlib.Core.Path.{◌≡◌, sym, ap, ◌∙◌}
use mathlib.Core.Logic.{⊎_elim, ◌≢◌}
use mathlib.Core.Bool.{true, false}
use mathlib.Core.List.{List}
use native.Mathlib.Omega.{arith}
use lib.Dec.{eqb}
use borrow.Author.Tests.{eqb-true, eqb-false, eq-eqb, ne_eqb, not-true, not-false}
use Rattle.words.specs.Reads.{at}
use Rattle.words.proofs.Tests.{lt_or_ge}
use Rattle.words.proofs.Ranges.{found, Found}
use Rattle.words.proofs.Searches.{Missed, first_hit}
use Rattle.start_places.specs.Starts.{Near}
use Rattle.start_places.proofs.Starts.{past}
use Rattle.start_runs.specs.Runs.{ends_in, last_in}

module _ (dist : List ℕ) (p : ℕ) where
  pub ends-not : (i : ℕ) → at dist (suc i) ≡ p → ends_in dist p i ≡ false
  unfolding ends_in
  ends-not i e = rw (eq-eqb (at dist (suc i)) p e)

  pub ends_here : (i : ℕ) → at dist (suc i) ≢ p → ends_in dist p i ≡ true
  unfolding ends_in
  ends_here i ne = rw (ne_eqb (at dist (suc i)) p ne)

  ends-none : (i : ℕ) → ends_in dist p i ≡ true → at dist (suc i) ≢ p
  unfolding ends_in
  ends-none i t = eqb-false (at dist (suc i)) p (not-true (eqb (at dist (suc i)) p) t)

  goes_on : (i : ℕ) → ends_in dist p i ≡ false → at dist (suc i) ≡ p
  unfolding ends_in
  goes_on i t = eqb-true (at dist (suc i)) p (not-false (eqb (at dist (suc i)) p) t)

  -- what a walk has found is the last
  pub last_found : (i j : ℕ) → Missed (ends_in dist p) i j → i ≤ j → j < i + 1000 → at dist (suc j) ≢ p → last_in dist p i ≡ j
  unfolding last_in
  last_found i j m a b ne = first_hit (ends_in dist p) 1000 i j m a b (ends_here j ne)

  module _ (N : Near p dist) (i : ℕ) (a : 1 ≤ i) (s : at dist i ≡ p) where
    f : Found (ends_in dist p) 1000 i (last_in dist p i)
    unfolding last_in
    f = found (ends_in dist p) 1000 i

    pub last_low : i ≤ last_in dist p i
    last_low = f.low

    -- each place up to the last is a start
    pub row-starts : (k : ℕ) → i ≤ k → k ≤ last_in dist p i → at dist k ≡ p
    row-starts k l m =
        ⊎_elim
        (λ (h : i < k). let q : suc (k - 1) ≡ k = omega arith in ap (at dist) (sym q) ∙ goes_on (k - 1) (f.least (k - 1) (omega arith) (omega arith)))
        (λ h. let q : k ≡ i = omega arith in ap (at dist) q ∙ s)
        (lt_or_ge i k)

    -- and the place after it is none
    pub row_ends : at dist (suc (last_in dist p i)) ≢ p
    row_ends =
        ⊎_elim
        (λ l. ends-none (last_in dist p i) (f.pass l))
        (λ l. past dist p N (suc (last_in dist p i)) (omega arith))
        (lt_or_ge (last_in dist p i) (i + 1000))
