-- The next position of a group after position i: it is found where a search stops, there is none in between, and so it is known for the
-- position before i. Assumes nothing.
use Prim.Native.Nat.{ℕ, suc, ◌+◌, ◌-◌, ◌≤◌, ◌<◌}
use mathlib.Core.Path.{◌≡◌, refl, sym, ap, ◌∙◌}
use mathlib.Core.Logic.{⊎_elim, ◌≢◌}
use mathlib.Core.Bool.{Bool, false}
use mathlib.Core.List.{List, []}
use native.Mathlib.Omega.{arith}
use lib.ListN.{length, length-drop, take, drop, get_or}
use lib.Dec.{eqb}
use borrow.Author.Tests.{eq-eqb, ne_eqb, eqb-true, le-leb, lt-leb, lt-ltb, le-ltb}
use Rattle.std.specs.Prelude.{Option, Some, MatchOption}
use Rattle.std.specs.Option.{option_map}
use Rattle.std.specs.List.{position, position_or_len}
use Rattle.std.proofs.lemmas.List.{get_or-drop, take_rest}
use Rattle.std.proofs.lemmas.List.Sums.{fails_before_first, passes_at_first}
use Rattle.words.specs.Range.{first}
use Rattle.words.specs.Reads.{at}
use Rattle.words.proofs.Tests.{clash, lt_or_ge}
use Rattle.words.proofs.Ranges.{found}
use Rattle.words.proofs.Searches.{Missed, first_hit}
use Rattle.bench_links.specs.Links.{next_in, or_none, Heads, Nexts}

module _ (t : List ℕ) (s : ℕ) where
  -- position j is of the group named s
  abbrev pub named : ℕ → Bool
  named j = eqb (at t j) s

  -- k is the next position after i
  pub record Next (i k : ℕ) : Type 0 where
    pub later : i < k
    pub inside : k ≤ length t
    pub same : at t k ≡ s
    pub between : Missed named (suc i) k

  pub next_hit : (i k : ℕ) → Next i k → next_in t s i ≡ k
  unfolding next_in
  next_hit i k h =
      rw (
        first_hit named (length t - i) (suc i) k h.between h.later (omega (arith, h.later, h.inside)) (eq-eqb (at t k) s h.same),
        le-leb k (length t) h.inside,
      )

  pub next-none : (i k : ℕ) → length t < k → Missed named (suc i) k → next_in t s i ≡ 0
  unfolding next_in
  next-none i r h m =
      let k = first named (length t - i) (suc i) in
      let f = found named (length t - i) (suc i) in
      ⊎_elim
      (λ (l : length t < k). rw (lt-leb k (length t) l))
      (λ l. clash (f.pass (omega (arith, f.low))) (m k f.low (omega arith)))
      (lt_or_ge (length t) k)

  -- the other way round
  pub none_after : (i : ℕ) → next_in t s i ≡ 0 → Missed named (suc i) (suc (length t))
  unfolding next_in
  none_after i e =
      let k = first named (length t - i) (suc i) in
      let f = found named (length t - i) (suc i) in
      ⊎_elim
      (λ (l : length t < k) j a b. f.least j a (omega arith))
      (λ l. absurd (omega (arith, rw (le-leb k (length t) l) at e, f.low)))
      (lt_or_ge (length t) k)

  pub some_after : (i : ℕ) → 0 < next_in t s i → Next i (next_in t s i)
  unfolding next_in
  some_after i h =
      let k = first named (length t - i) (suc i) in
      let f = found named (length t - i) (suc i) in
      ⊎_elim
      (λ (l : length t < k). absurd (omega (arith, rw (lt-leb k (length t) l) at h)))
      (λ l.
      rw (le-leb k (length t) l)
      (record { later = f.low; inside = l; same = eqb-true (at t k) s (f.pass (omega (arith, f.low))); between = f.least }))
      (lt_or_ge (length t) k)

  -- one position more before
  pub next_here : (i j : ℕ) → suc j ≡ i → i ≤ length t → at t i ≡ s → next_in t s j ≡ i
  next_here i j q b e = next_hit j i (record { later = omega arith; inside = b; same = e; between = λ k l h. absurd (omega arith) })

  pub next_on : (i j : ℕ) → suc j ≡ i → at t i ≢ s → next_in t s j ≡ next_in t s i
  next_on i j q ne =
      ⊎_elim
      (λ (l : 0 < next_in t s i).
      let h = some_after i l in
      next_hit j (next_in t s i)
      (record { later = omega (arith, h.later); inside = h.inside; same = h.same; between = wider (next_in t s i) h.between }))
      (λ l. next-none j (suc (length t)) (omega arith) (wider (suc (length t)) (none_after i (omega arith))) ∙ omega arith)
      (lt_or_ge 0 (next_in t s i))
    where
      wider : (k : ℕ) → Missed named (suc i) k → Missed named (suc j) k
      wider k m r a b = ⊎_elim (λ (l : i < r). m r l b) (λ l. let e : r ≡ i = omega arith in rw e (ne_eqb (at t i) s ne)) (lt_or_ge i r)

-- a position that there is
pub or_some : (i : ℕ) → 0 < i → Some i ≡ or_none i
or_some i h = rw (ne_eqb i 0 (omega arith))

-- what the code reads at a place
pub at_place : (t : List ℕ) (i : ℕ) {v : ℕ} → v ≡ get_or t i 0 → at t (i + 1) ≡ v
unfolding at
at_place t i e = ap (λ (k : ℕ). get_or t k 0) (omega arith) ∙ sym e

-- and of the lists
pub first-at : (t head : List ℕ) (s : ℕ) → Heads t head → 1 ≤ s → s ≤ length head → get_or head (s - 1) 0 ≡ next_in t s 0
unfolding at
first-at t head s h a b = h s a b

pub next-at : (t after : List ℕ) (i : ℕ) → Nexts t after → 1 ≤ i → i ≤ length after → get_or after (i - 1) 0 ≡ next_in t (at t i) i
unfolding at
next-at t after i h a b = h i a b

-- whoever has the firsts alone, or the nexts alone, has a table with its links: the other list is empty
pub no_heads : (t : List ℕ) → Heads t []
no_heads t s a b = absurd (omega (arith, a, b))

pub no_nexts : (t : List ℕ) → Nexts t []
no_nexts t i a b = absurd (omega (arith, a, b))

-- what a search of the table behind position i finds
module _ (t : List ℕ) (s i : ℕ) (inside : i ≤ length t) where
  abbrev rest : List ℕ
  rest = drop i t

  abbrev is : ℕ → Bool
  is x = eqb x s

  abbrev m : ℕ
  m = position_or_len is rest

  there : (j k : ℕ) → k ≡ i + j + 1 → at t k ≡ get_or rest j 0
  unfolding at
  there j k e = let v : k - 1 ≡ i + j = omega arith in rw v (sym (get_or-drop i t j 0))

  passed_by : (k : ℕ) → i < k → k ≤ i + m → named t s k ≡ false
  passed_by k a b = rw (there (k - suc i) k (omega arith)) (fails_before_first is rest (k - suc i) 0 (omega arith))

  sought_some : m < length rest → next_in t s i ≡ i + m + 1
  sought_some h =
      next_hit t s i (i + m + 1)
      (record {
        later = omega arith;
        inside = omega (arith, length-drop i t);
        same = there m (i + m + 1) refl ∙ eqb-true (get_or rest m 0) s (passes_at_first is rest 0 h);
        between = λ k a b. passed_by k a (omega arith);
      })

  sought-none : length rest ≤ m → next_in t s i ≡ 0
  sought-none h = next-none t s i (suc (length t)) (omega arith) (λ k a b. passed_by k a (omega (arith, length-drop i t)))

  pub sought : {r : Option ℕ} → r ≡ position is (take (length t - i) rest) → option_map (λ k. i + k + 1) r ≡ or_none (next_in t s i)
  sought p =
      let e : _ ≡ position is rest = p ∙ ap (position is) (take_rest t i) in
      ⊎_elim
      (λ (h : m < length rest). rw (e, lt-ltb m (length rest) h, sought_some h) (or_some (i + m + 1) (omega arith)))
      (λ h. rw (e, le-ltb m (length rest) h, sought-none h) refl)
      (lt_or_ge m (length rest))

-- what is known of the next position of the group named s after position i, if it is o
pub next_known : (t : List ℕ) (s i : ℕ) {o : Option ℕ} → o ≡ or_none (next_in t s i) → MatchOption o (next_in t s i ≡ 0) (λ k. (next_in t s i ≡ k) × Next t s i k)
next_known t s i e =
    ⊎_elim
    (λ (l : 0 < next_in t s i). rw (e ∙ sym (or_some (next_in t s i) l)) (refl, some_after t s i l))
    (λ l. let z : next_in t s i ≡ 0 = omega arith in rw (e ∙ ap or_none z) z)
    (lt_or_ge 0 (next_in t s i))
