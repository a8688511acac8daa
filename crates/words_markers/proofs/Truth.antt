-- The repeat that is scored, or why none is: what each answer says of a read and a marker, in the document's words, and that it is given if and only if that is so; so one answer
-- is, and none is left over. Assumes nothing.
use Prim.Native.Nat.{ℕ, suc, ◌+◌, ◌-◌, ◌*◌, ◌≤◌, ◌<◌}
use mathlib.Core.Path.{◌≡◌, ap, ◌∙◌}
use mathlib.Core.Logic.{⊎_elim, ◌↔◌}
use mathlib.Core.List.{List}
use native.Mathlib.Omega.{arith}
use native.Mathlib.Nat.{mul-le-mul_right}
use lib.ListN.{length, take, drop}
use Rattle.std.specs.Prelude.{Result, Ok, Err}
use Rattle.words.specs.Reads.{most}
use Rattle.words.specs.Repeats.{copies}
use Rattle.words.proofs.Tests.{lt_or_ge}
use Rattle.words.proofs.Told.{told_exactly}
use Rattle.words.proofs.Passing.{Rising}
use Rattle.words_markers.specs.Fits.{fittings}
use Rattle.words_markers.specs.Sites.{only, seats, only_one, site_in, site}
use Rattle.words.specs.declared.Refusal.{Refusal}
use Rattle.words_markers.specs.declared.Seats.{Seats}
use Rattle.words_markers.proofs.Counts.{none_is, is_none, one_is, is_one, more_is, is_more}
use Rattle.words_markers.proofs.Seated.{Between, Unseated, SeatsSay, between-inside, seats_so, seats_exactly}
use Rattle.words_markers.proofs.Fitting.{Fits, fits-inside, fits_here, fits-alike}
use Rattle.words_markers.proofs.Starts.{only_none, only-several, only_at, Starting, fittings_start}

-- why a read is not scored
abbrev pub Why : List ℕ → List ℕ → List ℕ → List ℕ → Refusal → Type 0
Why x u v m (Refusal.TooLong n) = Unseated x u v (Refusal.TooLong n)
Why x u v m (Refusal.BadLength k) = Unseated x u v (Refusal.BadLength k)
Why x u v m (Refusal.Foreign k) = Unseated x u v (Refusal.Foreign k)
Why x u v m (Refusal.Missing s) = Unseated x u v (Refusal.Missing s)
Why x u v m (Refusal.MoreThanOnce s) = Unseated x u v (Refusal.MoreThanOnce s)
Why x u v m Refusal.OutOfOrder = Unseated x u v Refusal.OutOfOrder
Why x u v m Refusal.NoRepeat = (lo hi : ℕ) × Between x u v lo hi × ((i p e : ℕ) → Fits x m lo hi i p e → ⊥)
Why x u v m Refusal.Several = (lo hi : ℕ) × Between x u v lo hi × ((i p e j q d : ℕ) × Fits x m lo hi i p e × Fits x m lo hi j q d × (i < j))
Why x u v m (Refusal.OutOfRange n) = ⊥
Why x u v m (Refusal.ListFull n) = ⊥
Why x u v m (Refusal.NoRoom n) = ⊥
Why x u v m (Refusal.BadEntry n) = ⊥
Why x u v m (Refusal.OutOfPlace n) = ⊥
Why x u v m (Refusal.IndexFull n) = ⊥

-- (i, p, e) fits between the primers, and no other repeat does
abbrev pub Alone : List ℕ → List ℕ → ℕ → ℕ → ℕ → ℕ → ℕ → Type 0
Alone x m lo hi i p e = Fits x m lo hi i p e × ((j q d : ℕ) → Fits x m lo hi j q d → (j ≡ i) × (q ≡ p) × (d ≡ e))

-- what an answer says: the repeat that starts there is the one and only that fits; or why there is none
abbrev pub Says : List ℕ → List ℕ → List ℕ → List ℕ → Result ℕ Refusal → Type 0
Says x u v m (Ok i) = (lo hi : ℕ) × Between x u v lo hi × ((p e : ℕ) × Alone x m lo hi i p e)
Says x u v m (Err why) = Why x u v m why

module _ (x u v m : List ℕ) where
  pub site-between : (lo hi : ℕ) → seats x u v ≡ Ok (record { from = lo; to = hi }) → site x u v m ≡ only_one (fittings x m lo hi)
  unfolding site site_in
  site-between lo hi e = ap (site_in x m) e

  pub site-not : (why : Refusal) → seats x u v ≡ Err why → site x u v m ≡ Err why
  unfolding site site_in
  site-not why e = ap (site_in x m) e

  -- ---- what is so is told

  unseated_told : (why : Refusal) → Unseated x u v why → site x u v m ≡ Err why
  unseated_told why s = site-not why ((seats_exactly x u v (Err why)).1 s)

  module _ (lo hi : ℕ) (b : Between x u v lo hi) where
    fitted : site x u v m ≡ only_one (fittings x m lo hi)
    fitted = site-between lo hi ((seats_exactly x u v (Ok (record { from = lo; to = hi }))).1 b)

    none_told : ((i p e : ℕ) → Fits x m lo hi i p e → ⊥) → site x u v m ≡ Err Refusal.NoRepeat
    none_told n = fitted ∙ only_none _ (is_none _ _ (fittings_start x m lo hi) (λ i s. n i s.0 s.1 s.2))

    more_told : (i p e j q d : ℕ) → Fits x m lo hi i p e → Fits x m lo hi j q d → i < j → site x u v m ≡ Err Refusal.Several
    more_told i p e j q d f g l = fitted ∙ only-several _ (is_more _ _ (fittings_start x m lo hi) (i, j, (p, e, f), (q, d, g), l))

    one_told : (i p e : ℕ) → Alone x m lo hi i p e → site x u v m ≡ Ok i
    one_told i p e a =
        let o = is_one _ _ (fittings_start x m lo hi) i ((p, e, a.0), λ j s. (a.1 j s.0 s.1 s.2).0) in
        fitted ∙ only_at _ o.0 ∙ ap (λ (i : ℕ). Ok i) o.1

  truth_told : (s : Result ℕ Refusal) → Says x u v m s → site x u v m ≡ s
  truth_told (Ok i) s = one_told s.0 s.1 s.2 i s.3.0 s.3.1 s.3.2
  truth_told (Err (Refusal.TooLong n)) s = unseated_told (Refusal.TooLong n) s
  truth_told (Err (Refusal.BadLength k)) s = unseated_told (Refusal.BadLength k) s
  truth_told (Err (Refusal.Foreign k)) s = unseated_told (Refusal.Foreign k) s
  truth_told (Err (Refusal.Missing k)) s = unseated_told (Refusal.Missing k) s
  truth_told (Err (Refusal.MoreThanOnce k)) s = unseated_told (Refusal.MoreThanOnce k) s
  truth_told (Err Refusal.OutOfOrder) s = unseated_told Refusal.OutOfOrder s
  truth_told (Err Refusal.NoRepeat) s = none_told s.0 s.1 s.2 s.3
  truth_told (Err Refusal.Several) s =
      let w = s.3 in
      more_told s.0 s.1 s.2 w.0 w.1 w.2 w.3 w.4 w.5 w.6 w.7 w.8
  truth_told (Err (Refusal.OutOfRange n)) s = absurd s
  truth_told (Err (Refusal.ListFull n)) s = absurd s
  truth_told (Err (Refusal.NoRoom n)) s = absurd s
  truth_told (Err (Refusal.BadEntry n)) s = absurd s
  truth_told (Err (Refusal.OutOfPlace n)) s = absurd s
  truth_told (Err (Refusal.IndexFull n)) s = absurd s

  -- ---- of one answer what it says is so

  -- a reason why nothing lies between is one why the read is not scored
  why_unseated : (why : Refusal) → Unseated x u v why → Why x u v m why
  why_unseated (Refusal.TooLong n) s = s
  why_unseated (Refusal.BadLength k) s = s
  why_unseated (Refusal.Foreign k) s = s
  why_unseated (Refusal.Missing k) s = s
  why_unseated (Refusal.MoreThanOnce k) s = s
  why_unseated Refusal.OutOfOrder s = s
  why_unseated Refusal.NoRepeat s = absurd s
  why_unseated Refusal.Several s = absurd s
  why_unseated (Refusal.OutOfRange n) s = absurd s
  why_unseated (Refusal.ListFull n) s = absurd s
  why_unseated (Refusal.NoRoom n) s = absurd s
  why_unseated (Refusal.BadEntry n) s = absurd s
  why_unseated (Refusal.OutOfPlace n) s = absurd s
  why_unseated (Refusal.IndexFull n) s = absurd s

  -- the number of starts decides
  between_so : (lo hi : ℕ) → Between x u v lo hi → (s : Result ℕ Refusal) × Says x u v m s
  between_so lo hi b = ⊎_elim (λ l. (Err Refusal.NoRepeat, (lo, hi, b, λ i p e f. none_is _ _ starts (omega arith) i (p, e, f)))) (λ l. ⊎_elim more (λ h. one (omega arith)) (lt_or_ge 1 (length (fittings x m lo hi)))) (lt_or_ge (length (fittings x m lo hi)) 1)
    where
      starts : Rising (Starting x m lo hi) (fittings x m lo hi)
      starts = fittings_start x m lo hi

      more : 1 < length (fittings x m lo hi) → (s : Result ℕ Refusal) × Says x u v m s
      more l = let w = more_is _ _ starts l in (Err Refusal.Several, (lo, hi, b, (w.0, w.2.0, w.2.1, w.1, w.3.0, w.3.1, w.2.2, w.3.2, w.4)))

      one : length (fittings x m lo hi) ≡ 1 → (s : Result ℕ Refusal) × Says x u v m s
      one l =
          let w = one_is _ _ starts l in
          (Ok (only (fittings x m lo hi)), (lo, hi, b, (w.0.0, w.0.1, (w.0.2, λ j q d g. let same = w.1 j (q, d, g) in let o = fits-alike x m lo hi _ _ _ w.0.2 j q d g same in (same, o.0, o.1)))))

  pub one_is_so : (s : Result ℕ Refusal) × Says x u v m s
  one_is_so = go (seats_so x u v)
    where
      go : (s : Result Seats Refusal) × SeatsSay x u v s → (t : Result ℕ Refusal) × Says x u v m t
      go (Ok t, s) = between_so t.from t.to s
      go (Err why, s) = (Err why, why_unseated why s)

  -- an answer is given if and only if what it says is so
  pub told_if_so : (s : Result ℕ Refusal) → (site x u v m ≡ s) ↔ Says x u v m s
  told_if_so = told_exactly (site x u v m) (Says x u v m) truth_told one_is_so

  -- what is scored lies in the read, is the motif there, and has no more copies than the read has bytes
  pub site-inside : (i : ℕ) → site x u v m ≡ Ok i
      → (1 ≤ i) × (i + length m ≤ suc (length x)) × (length x ≤ most) × (copies x i (length m) ≤ length x) × (take (length m) (drop (i - 1) x) ≡ m)
  site-inside i q =
      let s = (told_if_so (Ok i)).0 q in
      let f = fits_here x m s.0 s.1 i s.3.0 s.3.1 s.3.2.0 in
      let n = fits-inside x m s.0 s.1 i _ _ f in
      let c : copies x i (length m) ≤ length m * copies x i (length m) = omega (arith, mul-le-mul_right (copies x i (length m)) n.1) in
      (n.0, omega (arith, n.3, n.4), (between-inside x u v s.0 s.1 s.2).3, omega (arith, n.0, n.4, c), f.motif)
