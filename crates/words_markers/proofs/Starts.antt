-- The starts of the repeats that fit, one start at a time and all together: by the first of them and the second. Assumes nothing.
use Prim.Native.Nat.{ℕ, suc, ◌+◌, ◌-◌, ◌*◌, ◌/◌, ◌≤◌, ◌<◌}
use mathlib.Core.Path.{◌≡◌, refl, sym, ap, ◌∙◌}
use mathlib.Core.Bool.{true, false}
use mathlib.Core.List.{List, [], ◌∷◌}
use native.Mathlib.Omega.{arith}
use lib.ListN.{length, take, drop}
use lib.Dec.{leb}
use borrow.Author.Tests.{leb-true, le-leb}
use Rattle.std.specs.Prelude.{Ok, Err}
use Rattle.words.specs.Range.{first, passing}
use Rattle.words.specs.Repeats.{primitive, leads, copies}
use Rattle.words.proofs.Tests.{and_both, clash, same_test}
use Rattle.words.proofs.Ranges.{first-same, found}
use Rattle.words.proofs.Passing.{Rising, passes, passing_ended, passing_found, passing_skip, passing_stop, passing-none}
use Rattle.words.proofs.Repeats.{Repeat, repeat_is, is_repeat, is_primitive}
use Rattle.words.proofs.Lines.{copies_repeat}
use Rattle.words_markers.specs.Fits.{has_motif, fitting, fittings}
use Rattle.words_markers.specs.Sites.{only, only_one}
use Rattle.words.specs.declared.Refusal.{Refusal}
use Rattle.words_markers.proofs.Seating.{none_yes, none_no, several_yes, several_no}
use Rattle.words_markers.proofs.Fitting.{has_motif_is, is_has_motif, Fits, fits-inside, fits-fitting, fitting_is, fitting-not, motif-primitive}

-- ---- one start

module _ (x m : List ℕ) (lo hi i : ℕ) where
  pub no_motif : has_motif x m i (length m) ≡ false → fitting x m lo hi i ≡ false
  no_motif e = fitting-not x m lo hi i (λ f. clash (is_has_motif x m i (length m) f.motif) e)

  pub not_leading : leads x i (length m) ≡ false → fitting x m lo hi i ≡ false
  not_leading e = fitting-not x m lo hi i (λ f. clash f.leading e)

  pub not-twice : copies x i (length m) < 2 → fitting x m lo hi i ≡ false
  not-twice l = fitting-not x m lo hi i (λ f. omega (arith, l, (fits-inside x m lo hi i _ _ f).2))

  -- too late for two copies, or too early
  pub too_late : hi < i + 2 * length m → fitting x m lo hi i ≡ false
  too_late l = fitting-not x m lo hi i (λ f. omega (arith, l, (fits-inside x m lo hi i _ _ f).3, f.to))

  pub too_early : i < lo → fitting x m lo hi i ≡ false
  too_early l = fitting-not x m lo hi i (λ f. omega (arith, l, f.from))

  -- a repeat's motif is not empty, not longer than half the read, and primitive by itself
  pub motif-some : length m < 1 → fitting x m lo hi i ≡ false
  motif-some l = fitting-not x m lo hi i (λ f. omega (arith, l, (fits-inside x m lo hi i _ _ f).1))

  pub motif_short : length x / 2 < length m → fitting x m lo hi i ≡ false
  motif_short l = fitting-not x m lo hi i (λ f. let n = fits-inside x m lo hi i _ _ f in omega (arith, l, n.0, n.3, n.4))

  pub motif-written : primitive m 1 (length m) ≡ false → fitting x m lo hi i ≡ false
  motif-written e = fitting-not x m lo hi i (λ f.
      let n = fits-inside x m lo hi i _ _ f in
      let r = repeat_is x i (length m) (copies x i (length m)) f.repeat in
      clash (sym (motif-primitive x m i n.0 (omega (arith, n.3, n.4)) f.motif n.2 n.1) ∙ is_primitive x i (length m) r.prim) e)

  -- where a primitive motif stands twice and leads, one fits exactly if it ends in time
  pub in_time : lo ≤ i → 1 ≤ i → 1 ≤ length m → i + length m ≤ suc (length x) → primitive m 1 (length m) ≡ true → has_motif x m i (length m) ≡ true → leads x i (length m) ≡ true → 2 ≤ copies x i (length m)
      → fitting x m lo hi i ≡ leb (i + length m * copies x i (length m)) hi
  in_time low a some inside prim stand lead two =
      same_test (fitting x m lo hi i) (leb (i + length m * copies x i (length m)) hi)
      (λ t. le-leb _ hi (fitting_is x m lo hi i t).to)
      (λ t. fits-fitting x m lo hi i (length m) (copies x i (length m)) (record { repeat = is_repeat x i (length m) _ it; leading = lead; motif = bytes; from = low; to = leb-true _ hi t }))
    where
      bytes : take (length m) (drop (i - 1) x) ≡ m
      bytes = has_motif_is x m i (length m) stand

      it : Repeat x i (length m) (copies x i (length m))
      it =
          copies_repeat x i (length m) a (omega arith) some
          (and_both (leb 2 (copies x i (length m))) (primitive x i (length m)) (le-leb 2 (copies x i (length m)) two) (motif-primitive x m i a inside bytes two some ∙ prim))

  -- from the front on the first position does not matter
  pub from_anywhere : lo ≤ i → fitting x m lo hi i ≡ fitting x m 0 hi i
  from_anywhere low =
      same_test (fitting x m lo hi i) (fitting x m 0 hi i)
      (λ t. let f = fitting_is x m lo hi i t in fits-fitting x m 0 hi i _ _ (record { repeat = f.repeat; leading = f.leading; motif = f.motif; from = omega arith; to = f.to }))
      (λ t. let f = fitting_is x m 0 hi i t in fits-fitting x m lo hi i _ _ (record { repeat = f.repeat; leading = f.leading; motif = f.motif; from = low; to = f.to }))

-- ---- all of them

-- the only one of a list, by its length
module _ (l : List ℕ) where
  pub only_none : length l ≡ 0 → only_one l ≡ Err Refusal.NoRepeat
  unfolding only_one
  only_none e = rw (none_yes l e)

  pub only-several : 1 < length l → only_one l ≡ Err Refusal.Several
  unfolding only_one
  only-several h = rw (none_no l (omega arith), several_yes l h)

  pub only_at : length l ≡ 1 → only_one l ≡ Ok (only l)
  unfolding only_one
  only_at e = rw (none_no l (omega (arith, e)), several_no l (omega (arith, e)))

module _ (x m : List ℕ) (lo hi : ℕ) where
  pub none_start : ((i : ℕ) → fitting x m lo hi i ≡ false) → only_one (fittings x m lo hi) ≡ Err Refusal.NoRepeat
  unfolding fittings
  none_start h =
      let e : passing (fitting x m lo hi) (length x) 1 ≡ [] = passing_stop (fitting x m lo hi) 0 (length x) (omega arith) (λ k a b. h k) ∙ passing-none (fitting x m lo hi) 1 in
      only_none _ (ap length e)

  -- the list has exactly the starts of the repeats that fit, ascending
  abbrev pub Starting : ℕ → Type 0
  Starting i = (p e : ℕ) × Fits x m lo hi i p e

  pub fittings_start : Rising Starting (fittings x m lo hi)
  unfolding fittings
  fittings_start =
      let P = passes (fitting x m lo hi) (length x) 1 in
      record {
        exactly = λ i. (
          λ w. (length m, copies x i (length m), fitting_is x m lo hi i ((P.exactly i).0 w).2),
          λ s. let n = fits-inside x m lo hi i s.0 s.1 s.2 in (P.exactly i).1 (n.0, omega (arith, n.1, n.3, n.4), fits-fitting x m lo hi i s.0 s.1 s.2),
        );
        rises = P.rises;
      }

  module _ (low : 1 ≤ lo) (inside : lo ≤ suc (length x)) where
    -- the first start, and the first behind it, by the search that knows no first position
    abbrev next : ℕ → ℕ
    next j = first (fitting x m 0 hi) (suc (length x) - j) j

    next_is : (j : ℕ) → lo ≤ j → first (fitting x m lo hi) (suc (length x) - j) j ≡ next j
    next_is j l = first-same (fitting x m lo hi) (fitting x m 0 hi) (suc (length x) - j) j (λ k a b. from_anywhere x m lo hi k (omega arith))

    all : fittings x m lo hi ≡ passing (fitting x m lo hi) (suc (length x) - lo) lo
    unfolding fittings
    all = passing_skip (fitting x m lo hi) lo (length x) low inside (λ k a b. too_early x m lo hi k b)

    none_left : (j : ℕ) → lo ≤ j → j ≤ suc (length x) → next j ≡ suc (length x) → passing (fitting x m lo hi) (suc (length x) - j) j ≡ []
    none_left j l b e = passing_ended (fitting x m lo hi) (suc (length x) - j) j (next_is j l ∙ e ∙ omega arith)

    one_left : (j : ℕ) → lo ≤ j → j ≤ suc (length x) → next j < suc (length x)
        → passing (fitting x m lo hi) (suc (length x) - j) j ≡ next j ∷ passing (fitting x m lo hi) (suc (length x) - suc (next j)) (suc (next j))
    one_left j l b e =
        let n = next_is j l in
        let q : j + (suc (length x) - j) ≡ suc (length x) = omega arith in
        passing_found (fitting x m lo hi) (suc (length x) - j) j (omega (arith, n, q, e)) ∙ rw (n, q) refl

    pub none_found : next lo ≡ suc (length x) → only_one (fittings x m lo hi) ≡ Err Refusal.NoRepeat
    none_found e = only_none (fittings x m lo hi) (ap length (all ∙ none_left lo (omega arith) inside e))

    module _ (e : next lo < suc (length x)) where
      later : lo ≤ suc (next lo)
      later = omega (arith, (found (fitting x m 0 hi) (suc (length x) - lo) lo).low)

      pub more_found : next (suc (next lo)) < suc (length x) → only_one (fittings x m lo hi) ≡ Err Refusal.Several
      more_found l =
          let q = ap length (all ∙ one_left lo (omega arith) inside e ∙ ap (λ (t : List ℕ). next lo ∷ t) (one_left (suc (next lo)) later (omega arith) l)) in
          only-several (fittings x m lo hi) (omega (arith, q))

      pub one_found : next (suc (next lo)) ≡ suc (length x) → only_one (fittings x m lo hi) ≡ Ok (next lo)
      unfolding only
      one_found l =
          let q = all ∙ one_left lo (omega arith) inside e ∙ ap (λ (t : List ℕ). next lo ∷ t) (none_left (suc (next lo)) later (omega arith) l) in
          only_at (fittings x m lo hi) (omega (arith, ap length q)) ∙ ap (λ (t : List ℕ). Ok (only t)) q
