-- An entry's mark and what leads its old group go: only the entries behind it have marks and leaders left. Assumes nothing.
use Prim.Native.Nat.{ℕ, ◌+◌, ◌≤◌, ◌<◌}
use mathlib.Core.Path.{◌≡◌, sym, ap, ◌∙◌}
use mathlib.Core.Logic.{by_cases, ◌≢◌}
use mathlib.Core.List.{List}
use native.Mathlib.Decide.{ℕ_discrete}
use native.Mathlib.Omega.{arith}
use Rattle.words.specs.Reads.{at}
use Rattle.words.specs.Moves.{place_of}
use Rattle.slots.specs.Slots.{put}
use Rattle.slots.proofs.Laws.{put-length, put_same, put_other}
use Rattle.call_names.specs.Heads.{Leads}
use Rattle.call_renames.specs.Blocks.{Hit}
use Rattle.call_renames.specs.Split.{Left}

module _ (l : List ℕ) (q to : ℕ) (name part mark lead : List ℕ) (S : Left l q to name part mark lead) where
  -- the name of the old group of the position of entry h
  abbrev old : ℕ → ℕ
  old h = at part (at name (place_of l h))

  module _ (b : q < to) (i : ℕ) (e : i ≡ place_of l q) where
    pub left_place : Leads name part i
    left_place = rw e (S.places q (omega arith) b)

    pub left_step : (mark' lead' : List ℕ) → mark' ≡ put mark i 0 → lead' ≡ put lead (at part (at name i)) 0 → Left l (q + 1) to name part mark' lead'
    left_step mark' lead' f g =
        rw (f, g)
        (record {
          forth = omega arith;
          inside = S.inside;
          mark_long = put-length mark i 0 ∙ S.mark_long;
          lead_long = put-length lead k 0 ∙ S.lead_long;
          places = λ h c d. S.places h (omega arith) d;
          marks = λ j c d w. by_cases (ℕ_discrete j i)
              (λ z. absurd (omega (arith, w, ap (at (put mark i 0)) z, put_same mark i 0 P.low (omega (arith, P.high, S.mark_long)))))
              (λ z. mark_later j (λ y. z (y ∙ sym e)) (S.marks j c d (rw (put_other mark i 0 j P.low c z) at w)));
          leads = λ m c d w. by_cases (ℕ_discrete m k)
              (λ z. absurd (omega (arith, w, ap (at (put lead k 0)) z, put_same lead k 0 P.old_low (omega (arith, P.old_high, S.lead_long)))))
              (λ z. lead_later m z (S.leads m c d (rw (put_other lead k 0 m P.old_low c z) at w)));
        })
      where
        P : Leads name part i
        P = left_place

        k : ℕ
        k = at part (at name i)

        mark_later : (j : ℕ) → j ≢ place_of l q → Hit l q to j → Hit l (q + 1) to j
        mark_later j ne w = by_cases (ℕ_discrete w.0 q) (λ y. absurd (ne (sym w.3 ∙ ap (place_of l) y))) (λ y. (w.0, omega (arith, w.1), w.2, w.3))

        lead_later : (m : ℕ) → m ≢ k → (h : ℕ) × (q ≤ h) × (h < to) × (old h ≡ m) → (h : ℕ) × (q + 1 ≤ h) × (h < to) × (old h ≡ m)
        lead_later m ne w =
            by_cases (ℕ_discrete w.0 q)
            (λ y. absurd (ne (sym w.3 ∙ ap old y ∙ ap (λ (x : ℕ). at part (at name x)) (sym e))))
            (λ y. (w.0, omega (arith, w.1), w.2, w.3))
