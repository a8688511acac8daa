-- A rising list that has exactly the numbers of a kind: none, one or more of them, as its length says. Assumes nothing.
use Prim.Native.Nat.{ℕ, ◌≤◌, ◌<◌}
use mathlib.Core.Path.{◌≡◌, refl, sym, ap, ◌∙◌}
use mathlib.Core.Logic.{⊎_elim}
use mathlib.Core.List.{List}
use native.Mathlib.Omega.{arith}
use lib.ListN.{length, get_or}
use Rattle.words.proofs.Tests.{lt_or_ge}
use Rattle.words.proofs.Passing.{Rising}
use Rattle.words_markers.specs.Sites.{only}

-- no number of a kind, one alone, and two
abbrev pub Nowhere : (ℕ → Type 0) → Type 0
Nowhere P = (i : ℕ) → P i → ⊥

abbrev pub Once : (ℕ → Type 0) → ℕ → Type 0
Once P i = P i × ((j : ℕ) → P j → j ≡ i)

abbrev pub Often : (ℕ → Type 0) → Type 0
Often P = (i j : ℕ) × P i × P j × (i < j)

module _ (P : ℕ → Type 0) (l : List ℕ) (L : Rising P l) where
  at_place : (k : ℕ) → k < length l → P (get_or l k 0)
  at_place k b = (L.exactly (get_or l k 0)).0 (k, b, refl)

  pub some_is : 1 ≤ length l → P (only l)
  unfolding only
  some_is h = at_place 0 h

  pub is_some : (i : ℕ) → P i → 1 ≤ length l
  is_some i p = omega (arith, ((L.exactly i).1 p).1)

  pub none_is : length l ≡ 0 → Nowhere P
  none_is e i p = omega (arith, e, is_some i p)

  pub is_none : Nowhere P → length l ≡ 0
  is_none h = ⊎_elim (λ b. omega arith) (λ b. absurd (h (only l) (some_is b))) (lt_or_ge (length l) 1)

  pub one_is : length l ≡ 1 → Once P (only l)
  unfolding only
  one_is e = (some_is (omega (arith, e)), λ j p. let w = (L.exactly j).1 p in let z : w.0 ≡ 0 = omega (arith, w.1, e) in sym w.2 ∙ ap (λ (k : ℕ). get_or l k 0) z)

  pub more_is : 1 < length l → Often P
  more_is b = (get_or l 0 0, get_or l 1 0, at_place 0 (omega arith), at_place 1 b, L.rises 0 1 (omega arith) b)

  pub is_more : Often P → 1 < length l
  is_more o =
      let v = (L.exactly o.0).1 o.2 in
      let w = (L.exactly o.1).1 o.3 in
      ⊎_elim (λ b. b)
      (λ b.
      let z : v.0 ≡ w.0 = omega (arith, v.1, w.1, b) in
      let q : o.0 ≡ o.1 = sym v.2 ∙ ap (λ (k : ℕ). get_or l k 0) z ∙ w.2 in
      absurd (omega (arith, q, o.4)))
      (lt_or_ge 1 (length l))

  pub is_one : (i : ℕ) → Once P i → (length l ≡ 1) × (only l ≡ i)
  is_one i o =
      ⊎_elim
      (λ b. let m = more_is b in absurd (omega (arith, o.1 m.0 m.2, o.1 m.1 m.3, m.4)))
      (λ b. (omega (arith, b, is_some i o.0), o.1 (only l) (some_is (is_some i o.0))))
      (lt_or_ge 1 (length l))
