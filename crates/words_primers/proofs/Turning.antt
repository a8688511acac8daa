-- The reverse complement: its letters, that the one of a primer is a primer, and that taken twice it gives the primer back. Assumes nothing.
use Prim.Native.Nat.{ℕ, ◌-◌, ◌≤◌, ◌<◌}
use mathlib.Core.Path.{◌≡◌, sym, ap, ◌∙◌}
use mathlib.Core.Logic.{◌⊎◌, ◌≢◌, ⊎_elim}
use mathlib.Core.List.{List}
use native.Mathlib.Omega.{arith}
use lib.ListN.{length, get_or}
use lib.Seq.{ext_get_or}
use borrow.Author.Tests.{eqb-true, eqb-false}
use Rattle.words.proofs.Tests.{lt_or_ge}
use Rattle.words.proofs.Ranges.{found, length-cells, get_or_cells}
use Rattle.words_primers.specs.Bases.{set_of, letter_for, complement_of}
use Rattle.words_primers.specs.Primers.{longest, foreign, first_foreign, turned, reverse_complement}
use Rattle.words_primers.proofs.Letters.{letter-back, set_small, set_back}
use Rattle.words_primers.proofs.Sets.{complement_none, complement_small, complement_twice}

-- ---- a letter

-- the set of a turned letter is the complement of its set, also where there is none
pub turned_set : (b : ℕ) → set_of (turned b) ≡ complement_of (set_of b)
unfolding turned
turned_set b = set_back (complement_of (set_of b)) (complement_small (set_of b) (set_small b))

-- a complement that is empty is that of the empty set
turned-own : (b : ℕ) → set_of b ≢ 0 → set_of (turned b) ≢ 0
turned-own b own z = own (sym (complement_twice (set_of b) (set_small b)) ∙ ap complement_of (sym (turned_set b) ∙ z) ∙ complement_none)

turned-twice : (b : ℕ) → set_of b ≢ 0 → turned (turned b) ≡ b
unfolding turned
turned-twice b own = ap (λ (v : ℕ). letter_for (complement_of v)) (turned_set b) ∙ ap letter_for (complement_twice (set_of b) (set_small b)) ∙ letter-back b own

-- ---- a primer

-- 1 to 60 letters, or another number of them
abbrev pub GoodLength : List ℕ → Type 0
GoodLength u = (1 ≤ length u) × (length u ≤ longest)

abbrev pub BadLength : List ℕ → Type 0
BadLength u = (length u < 1) ⊎ (longest < length u)

-- each letter is one of the code
abbrev pub AllOwn : List ℕ → Type 0
AllOwn u = (k : ℕ) → k < length u → set_of (get_or u k 0) ≢ 0

-- 1 to 60 letters, each of the code
pub record Primer (u : List ℕ) : Type 0 where
  pub some : 1 ≤ length u
  pub few : length u ≤ longest
  pub own : AllOwn u

module _ (u : List ℕ) where
  -- the first foreign letter is one, and none before it is
  pub foreign-at : first_foreign u < length u → set_of (get_or u (first_foreign u) 0) ≡ 0
  unfolding first_foreign foreign
  foreign-at l = eqb-true (set_of (get_or u (first_foreign u) 0)) 0 ((found (foreign u) (length u) 0).pass (omega (arith, l)))

  pub foreign-first : (k : ℕ) → k < first_foreign u → set_of (get_or u k 0) ≢ 0
  unfolding first_foreign foreign
  foreign-first k l = eqb-false (set_of (get_or u k 0)) 0 ((found (foreign u) (length u) 0).least k (omega arith) l)

  -- it lies behind the last exactly if no letter is foreign
  pub none-foreign : length u ≤ first_foreign u → AllOwn u
  none-foreign h k l = foreign-first k (omega arith)

  pub all_own : AllOwn u → length u ≤ first_foreign u
  all_own own = ⊎_elim (λ l. absurd (own (first_foreign u) l (foreign-at l))) (λ l. l) (lt_or_ge (first_foreign u) (length u))

  -- letter k is no letter of the code, and the first such
  abbrev pub FirstForeign : ℕ → Type 0
  FirstForeign k = (k < length u) × (set_of (get_or u k 0) ≡ 0) × ((j : ℕ) → j < k → set_of (get_or u j 0) ≢ 0)

  pub first-foreign : first_foreign u < length u → FirstForeign (first_foreign u)
  first-foreign l = (l, foreign-at l, foreign-first)

  pub first_foreign_is : (k : ℕ) → FirstForeign k → first_foreign u ≡ k
  first_foreign_is k f =
      let high : first_foreign u ≤ k = ⊎_elim (λ l. absurd (foreign-first k l f.1)) (λ l. l) (lt_or_ge k (first_foreign u)) in
      let low : k ≤ first_foreign u = ⊎_elim (λ l. absurd (f.2 (first_foreign u) l (foreign-at (omega (arith, high, f.0))))) (λ l. l) (lt_or_ge (first_foreign u) k) in
      omega arith

  -- ---- its reverse complement

  pub reverse-length : length (reverse_complement u) ≡ length u
  unfolding reverse_complement
  reverse-length = length-cells (λ k. turned (get_or u (length u - 1 - k) 0)) (length u) 0

  pub reverse-at : (k : ℕ) → k < length u → get_or (reverse_complement u) k 0 ≡ turned (get_or u (length u - 1 - k) 0)
  unfolding reverse_complement
  reverse-at k l = get_or_cells (λ j. turned (get_or u (length u - 1 - j) 0)) (length u) 0 k l ∙ ap (λ (j : ℕ). turned (get_or u (length u - 1 - j) 0)) (omega arith)

module _ (u : List ℕ) (own : AllOwn u) where
  -- taken twice it gives back any string of the code's letters
  pub reverse_complement_twice : reverse_complement (reverse_complement u) ≡ u
  reverse_complement_twice =
      ext_get_or 0 (reverse_complement (reverse_complement u)) u (reverse-length (reverse_complement u) ∙ n)
      (λ k l. cell k (omega (arith, l, reverse-length (reverse_complement u), n)))
    where
      n : length (reverse_complement u) ≡ length u
      n = reverse-length u

      cell : (k : ℕ) → k < length u → get_or (reverse_complement (reverse_complement u)) k 0 ≡ get_or u k 0
      cell k l =
          let j : ℕ = length u - 1 - k in
          let back : length u - 1 - j ≡ k = omega arith in
          reverse-at (reverse_complement u) k (omega (arith, n))
          ∙ ap (λ (v : ℕ). turned (get_or (reverse_complement u) (v - 1 - k) 0)) n
          ∙ ap turned (reverse-at u j (omega arith) ∙ ap (λ (v : ℕ). turned (get_or u v 0)) back)
          ∙ turned-twice (get_or u k 0) (own k l)

  reverse-own : (k : ℕ) → k < length (reverse_complement u) → set_of (get_or (reverse_complement u) k 0) ≢ 0
  reverse-own k l z =
      let h : k < length u = omega (arith, l, reverse-length u) in
      turned-own (get_or u (length u - 1 - k) 0) (own (length u - 1 - k) (omega arith)) (ap set_of (sym (reverse-at u k h)) ∙ z)

-- the reverse complement of a primer is a primer
pub reverse_complement_primer : (u : List ℕ) → Primer u → Primer (reverse_complement u)
reverse_complement_primer u P =
    let n = reverse-length u in
    record { some = omega (arith, P.some, n); few = omega (arith, P.few, n); own = reverse-own u P.own }
