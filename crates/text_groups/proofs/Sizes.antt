-- The size of a group by its first position and the one after that: none, one or more. Assumes nothing.
use Prim.Native.Nat.{ℕ, zero, suc, ◌+◌, ◌-◌, ◌≤◌, ◌<◌, min}
use mathlib.Core.Path.{◌≡◌, refl, ap, subst, ◌∙◌}
use mathlib.Core.Logic.{⊎_elim}
use mathlib.Core.Bool.{Bool, true, false}
use mathlib.Core.List.{List}
use native.Mathlib.Omega.{arith}
use native.Mathlib.Nat.{eq-or-lt_of_le}
use lib.ListN.{length}
use borrow.Author.Tests.{eq-eqb}
use Rattle.std.specs.Prelude.{Option, Some, None, is_some}
use Rattle.words.specs.Range.{sum, bit, count}
use Rattle.words.specs.Reads.{at}
use Rattle.words.specs.Groups.{size}
use Rattle.words.proofs.Tests.{clash}
use Rattle.words.proofs.Sums.{count_none}
use Rattle.words.proofs.Searches.{Missed}
use Rattle.bench_links.specs.Links.{next_in, or_none}
use Rattle.bench_links.proofs.Nexts.{named, Next, next_known, none_after, some_after}

-- the numbers of a range that pass: the first, and those after it
count_hit : (p : ℕ → Bool) (d j k : ℕ) → j ≤ k → k < j + d → Missed p j k → p k ≡ true → count p d j ≡ 1 + count p (j + d - suc k) (suc k)
unfolding count sum
count_hit p zero j k a b m t = absurd (omega arith)
count_hit p (suc d) j k a b m t =
    ⊎_elim
    (λ (q : j ≡ k).
    let e : j + suc d - suc j ≡ d = omega arith in
    subst (λ (v : ℕ). sum (λ i. bit (p i)) (suc d) j ≡ 1 + sum (λ i. bit (p i)) (j + suc d - suc v) (suc v)) q
    (rw (ap p q ∙ t, e)))
    (λ (l : j < k).
    let e : suc j + d ≡ j + suc d = omega arith in
    rw (m j (omega arith) l, ← e) (omega (arith, count_hit p d (suc j) k l (omega arith) (λ i c f. m i (omega arith) f) t)))
    (eq-or-lt_of_le a)

module _ (t : List ℕ) (s : ℕ) where
  -- the positions after i of the group
  abbrev behind : ℕ → ℕ
  behind i = count (named t s) (length t - i) (suc i)

  behind-none : (i : ℕ) → next_in t s i ≡ 0 → behind i ≡ 0
  behind-none i e = count_none (named t s) (length t - i) (suc i) (λ k a b. none_after t s i e k a (omega arith))

  behind-some : (i : ℕ) → 0 < next_in t s i → behind i ≡ 1 + behind (next_in t s i)
  behind-some i l =
      let h = some_after t s i l in
      let k = next_in t s i in
      let e : suc i + (length t - i) - suc k ≡ length t - k = omega (arith, h.later, h.inside) in
      rw (← e)
      (count_hit (named t s) (length t - i) (suc i) k h.later (omega (arith, h.later, h.inside)) h.between (eq-eqb (at t k) s h.same))

  size-behind : size t s ≡ behind 0
  unfolding size
  size-behind = ap (λ (d : ℕ). count (named t s) d 1) (omega arith)

  pub few_none : None ≡ or_none (next_in t s 0) → 0 ≡ min 2 (size t s)
  few_none e = omega (arith, size-behind, behind-none 0 (next_known t s 0 e))

  -- i is the first position of the group, and r the next one
  module _ {i : ℕ} (e : Some i ≡ or_none (next_in t s 0)) where
    first-is : (next_in t s 0 ≡ i) × Next t s 0 i
    first-is = next_known t s 0 e

    pub first-inside : (1 ≤ i) × (i ≤ length t)
    first-inside = (omega (arith, first-is.1.later), first-is.1.inside)

    first-behind : behind 0 ≡ 1 + behind i
    first-behind = rw first-is.0 at (behind-some 0 (omega (arith, first-is.0, first-is.1.later)))

    module _ (r : Option ℕ) (q : r ≡ or_none (next_in t (at t i) i)) where
      next-is : r ≡ or_none (next_in t s i)
      next-is = rw first-is.1.same at q

      pub few_one : is_some r ≡ false → 1 ≡ min 2 (size t s)
      few_one z = go r next-is z
        where
          go : (o : Option ℕ) → o ≡ or_none (next_in t s i) → is_some o ≡ false → 1 ≡ min 2 (size t s)
          go None p z = omega (arith, size-behind, first-behind, behind-none i (next_known t s i p))
          go (Some k) p z = clash refl z

      pub few_more : is_some r ≡ true → 2 ≡ min 2 (size t s)
      few_more z = go r next-is z
        where
          go : (o : Option ℕ) → o ≡ or_none (next_in t s i) → is_some o ≡ true → 2 ≡ min 2 (size t s)
          go None p z = clash z refl
          go (Some k) p z =
              let h = next_known t s i p in
              omega (arith, size-behind, first-behind, behind-some i (omega (arith, h.0, h.1.later)))
