-- The distance to the next position of a group, by that position, and the number of starts in a row, as the loop that counts them finds it.
-- Assumes nothing.
use Prim.Native.Nat.{ℕ, suc, ◌+◌, ◌-◌, ◌*◌, ◌≤◌, ◌<◌}
use mathlib.Core.Path.{◌≡◌, sym, ap, ◌∙◌}
use mathlib.Core.Logic.{◌⊎◌, inl, inr, ⊎_elim, ◌≢◌}
use mathlib.Core.Bool.{Bool, true, false, not}
use mathlib.Core.List.{List}
use native.Mathlib.Omega.{arith}
use lib.ListN.{length}
use lib.Dec.{eqb}
use borrow.Author.Tests.{eq-eqb, ne_eqb, eqb-false, le-leb, lt-leb}
use Rattle.words.specs.Range.{first}
use Rattle.words.specs.Reads.{at}
use Rattle.words.specs.Groups.{gap}
use Rattle.words.proofs.Tests.{clash, lt_or_ge}
use Rattle.words.proofs.Ranges.{found}
use Rattle.bench_links.specs.Links.{next_in}
use Rattle.bench_links.proofs.Nexts.{none_after, some_after}
use Rattle.bench_agrees.specs.Agreement.{starts, copies_in}
use Rattle.words.proofs.Searches.{Missed, first_ended, first_hit}

eqb-turned : (a b : ℕ) → eqb a b ≡ false → eqb b a ≡ false
eqb-turned a b h = ne_eqb b a (λ q. eqb-false a b h (sym q))

module _ (t : List ℕ) (i : ℕ) where
  -- the position m after i is of its group
  abbrev meets : ℕ → Bool
  meets m = eqb (at t i) (at t (i + m))

  gap_found : (m : ℕ) → 1 ≤ m → i + m ≤ length t → Missed meets 1 m → meets m ≡ true → gap t i ≡ m
  unfolding gap
  gap_found m a b h e = rw (first_hit meets (length t - i) 1 m h a (omega arith) e, le-leb (i + m) (length t) b)

  gap-none : (r : ℕ) → length t < i + r → Missed meets 1 r → gap t i ≡ 0
  unfolding gap
  gap-none r h m =
      let k = first meets (length t - i) 1 in
      ⊎_elim
      (λ (l : length t < i + k). rw (lt-leb (i + k) (length t) l))
      (λ l. let f = found meets (length t - i) 1 in clash (f.pass (omega arith)) (m k f.low (omega arith)))
      (lt_or_ge (length t) (i + k))

  -- the next position lies in the table
  pub gap-inside : (gap t i ≡ 0) ⊎ (i + gap t i ≤ length t)
  unfolding gap
  gap-inside =
      let k = first meets (length t - i) 1 in
      ⊎_elim
      (λ (l : length t < i + k). inl (rw (lt-leb (i + k) (length t) l)))
      (λ l. inr (rw (le-leb (i + k) (length t) l) l))
      (lt_or_ge (length t) (i + k))

  -- by the next position
  gap-zero : next_in t (at t i) i ≡ 0 → gap t i ≡ 0
  gap-zero e =
      gap-none (suc (length t) - i) (omega arith)
      (λ m a b. eqb-turned (at t (i + m)) (at t i) (none_after t (at t i) i e (i + m) (omega arith) (omega arith)))

  gap-some : 0 < next_in t (at t i) i → gap t i ≡ next_in t (at t i) i - i
  gap-some l =
      let h = some_after t (at t i) i l in
      let k = next_in t (at t i) i in
      let e : i + (k - i) ≡ k = omega (arith, h.later) in
      gap_found (k - i) (omega (arith, h.later)) (omega (arith, e, h.inside))
      (λ m a b. eqb-turned (at t (i + m)) (at t i) (h.between (i + m) (omega arith) (omega arith)))
      (rw e (eq-eqb (at t i) (at t k) (sym h.same)))

  pub gap-next : gap t i ≡ next_in t (at t i) i - i
  gap-next = ⊎_elim gap-some (λ l. gap-zero (omega arith) ∙ omega arith) (lt_or_ge 0 (next_in t (at t i) i))

module _ (t : List ℕ) (p i : ℕ) where
  -- k starts on there is none
  abbrev pub stops : ℕ → Bool
  stops k = not (starts t p (i + p * k))

  pub stops_yes : (k j : ℕ) → j ≡ i + p * k → gap t j ≢ p → stops k ≡ true
  unfolding starts
  stops_yes k j e ne = ap (λ (v : ℕ). not (eqb (gap t v) p)) (sym e) ∙ ap not (ne_eqb (gap t j) p ne)

  pub stops_no : (k j : ℕ) → j ≡ i + p * k → gap t j ≡ p → stops k ≡ false
  unfolding starts
  stops_no k j e g = ap (λ (v : ℕ). not (eqb (gap t v) p)) (sym e) ∙ ap not (eq-eqb (gap t j) p g)

  pub copies_found : (k : ℕ) → k < length t → Missed stops 0 k → stops k ≡ true → copies_in t p i ≡ k + 1
  unfolding copies_in
  copies_found k b m e = ap suc (first_hit stops (length t) 0 k m (omega arith) (omega arith) e) ∙ omega arith

  pub copies_ended : (k : ℕ) → k ≡ length t → Missed stops 0 k → copies_in t p i ≡ k + 1
  unfolding copies_in
  copies_ended k e m = ap suc (first_ended stops (length t) 0 k m (omega arith)) ∙ omega arith

  -- the next place of the chain lies in the table
  pub chain-inside : (j : ℕ) → gap t j ≡ p → j ≤ length t → j + p ≤ length t
  chain-inside j e h = ⊎_elim (λ z. omega arith) (λ z. omega arith) (gap-inside t j)
