-- The positions that move, in the log's order: each is the next in the order of the mark, then the position. After the last all have their new
-- names, and every leader that is left stands at a name that was kept. Assumes nothing.
use Prim.Native.Nat.{ℕ, ◌+◌, ◌≤◌, ◌<◌}
use mathlib.Core.Path.{◌≡◌, refl, sym, ap, ◌∙◌}
use mathlib.Core.Logic.{◌⊎◌, inl, inr, ⊎_elim, by_cases, ◌≢◌}
use mathlib.Core.Bool.{true, false}
use mathlib.Core.List.{List}
use native.Mathlib.Decide.{ℕ_discrete}
use native.Mathlib.Omega.{arith}
use lib.ListN.{length}
use Rattle.words.specs.Range.{leader}
use Rattle.words.specs.Reads.{at}
use Rattle.words.specs.Moves.{name_of, place_of}
use Rattle.words.proofs.Tests.{either, lt_or_ge}
use Rattle.slots.specs.Slots.{put, view}
use Rattle.slots.proofs.Laws.{put-length, put_same, put_other, view-length, view-at}
use Rattle.call_names.specs.Heads.{joined, part_of, Renamed, Leads}
use Rattle.call_names.proofs.Kept.{part_of_length}
use Rattle.call_renames.specs.Blocks.{Hit, Block}
use Rattle.call_renames.specs.Split.{joint, split, Covered, Moved, Left}
use Rattle.call_renames.proofs.Leading.{Next, leader-own-leads, leader-named, leader-inside, leaders-split, joined_head, joined-leads, alone-leads, head_leads, leading_step}

module _ (n : ℕ) (mark l : List ℕ) (from to : ℕ) (R : Block n l mark from to) where
  -- two entries have two positions
  pub entry_apart : (g h : ℕ) → from ≤ g → g < h → h < to → place_of l h ≢ place_of l g
  entry_apart g h a b c e =
      let same : name_of l g ≡ name_of l h = sym (R.marked g a (omega arith)).1 ∙ ap (at mark) (sym e) ∙ (R.marked h (omega arith) c).1 in
      ⊎_elim (λ p. absurd (omega arith)) (λ p. absurd (omega (arith, p.1))) (R.rises g h a b c)

  module _ (q : ℕ) (a : from ≤ q) (b : q < to) where
    abbrev i : ℕ
    i = place_of l q

    pub i_low : 1 ≤ i
    i_low = (R.places.place q a b).0

    pub i_high : i ≤ n
    i_high = (R.places.place q a b).1

    pub i-marked : 1 ≤ at mark i
    i-marked = omega (arith, (R.marked q a b).0, (R.marked q a b).1)

    -- a position of the same mark that is not covered comes later in the block, so it is no lower
    covered_before : n ≤ 1000 → (j : ℕ) → 1 ≤ j → j < i → at mark j ≡ at mark i → Covered mark l from q j
    covered_before few j c d e = go (R.all j c (omega (arith, i_high)) (omega (arith, i-marked)))
      where
        go : Hit l from to j → Covered mark l from q j
        go w =
            let h = w.0 in
            let same : name_of l h ≡ name_of l q = sym (R.marked h w.1 w.2).1 ∙ ap (at mark) w.3 ∙ e ∙ (R.marked q a b).1 in
            ⊎_elim
            (λ p. inr (h, w.1, p, w.3))
            (λ p. by_cases (ℕ_discrete h q)
            (λ g. absurd (omega (arith, w.3, ap (place_of l) g)))
            (λ g. ⊎_elim (λ r. absurd (omega arith)) (λ r. absurd (omega (arith, r.1, w.3))) (R.rises q h a (omega arith) w.2)))
            (lt_or_ge h q)

    covered_below : (j : ℕ) → Covered mark l from q j → at mark j ≤ at mark i
    covered_below j (inl e) = omega arith
    covered_below j (inr w) =
        let h = w.0 in
        let c : h < to = omega (arith, w.2) in
        let e : at mark j ≡ name_of l h = ap (at mark) (sym w.3) ∙ (R.marked h w.1 c).1 in
        ⊎_elim (λ r. omega (arith, (R.marked q a b).1)) (λ r. omega (arith, r.0, (R.marked q a b).1)) (R.rises h q w.1 w.2 b)

    pub covered_only : (j : ℕ) → Covered mark l from (q + 1) j → (j ≡ i) ⊎ Covered mark l from q j
    covered_only j (inl g) = inr (inl g)
    covered_only j (inr w) = by_cases (ℕ_discrete w.0 q) (λ g. inl (sym w.3 ∙ ap (place_of l) g)) (λ g. inr (inr (w.0, w.1, omega (arith, w.2), w.3)))

    module _ (t name lead part : List ℕ) (P : Moved n t mark l from q to name lead part) where
      few : length t ≤ 1000
      few = omega (arith, P.table.size, P.table.few)

      inside : i ≤ length t
      inside = omega (arith, i_high, P.table.size)

      old : at name i ≡ at t i
      old = P.kept q (omega arith) b

      mover_next : Next t mark (Covered mark l from q) (Covered mark l from (q + 1)) i
      mover_next =
          record {
            low = i_low;
            high = inside;
            torn = inl i-marked;
            now = inr (q, a, omega arith, refl);
            more = λ j d. ⊎_elim (λ e. inl e) (λ w. inr (w.0, w.1, omega (arith, w.2), w.3)) d;
            only = λ j c e d. covered_only j d;
            before = covered_before P.table.few;
            below = λ j c e d. covered_below j d;
          }

      abbrev r : ℕ → ℕ
      r = leader (joint t mark)

      -- the old name of a part that has been met is kept already, that of a new one is kept now
      saved_on : (h : ℕ) → from ≤ h → h < q + 1 → at (part_of lead mark part (at t i) i) (r (place_of l h)) ≡ at t (place_of l h)
      unfolding part_of
      saved_on h c d =
          ⊎_elim
          (λ e. rw e (by_cases (ℕ_discrete h q) (λ g. rw g (met e)) (λ g. P.saved h c (omega arith))))
          (λ e. rw e (by_cases (ℕ_discrete (r m) i)
          (λ g. ap (at (put part i (at t i))) g ∙ put_same part i (at t i) i_low (omega (arith, inside, few, P.part-long)) ∙ ap (at t) (sym g) ∙ leader-named t mark m m_low)
          (λ g.
          put_other part i (at t i) (r m) i_low (leader-inside t mark m m_low).0 g
          ∙ P.saved h c (by_cases (ℕ_discrete h q) (λ z. absurd (g (ap (λ (x : ℕ). r (place_of l x)) z ∙ sym (alone e)))) (λ z. omega arith)))))
          (either (joined mark (at lead (at t i)) i))
        where
          m : ℕ
          m = place_of l h

          m_low : 1 ≤ m
          m_low = (R.places.place h c (omega arith)).0

          alone : joined mark (at lead (at t i)) i ≡ false → i ≡ r i
          alone = alone-leads t mark P.table.least few (Covered mark l from q) (Covered mark l from (q + 1)) lead P.leads i mover_next

          met : joined mark (at lead (at t i)) i ≡ true → at part (r i) ≡ at t i
          met e =
              let H = joined_head t mark P.table.least few (Covered mark l from q) (Covered mark l from (q + 1)) lead P.leads i mover_next e in
              let f : at lead (at t i) ≡ r i = joined-leads t mark P.table.least few (Covered mark l from q) (Covered mark l from (q + 1)) lead P.leads i mover_next e in
              ⊎_elim
              (λ z. absurd (omega (arith, z, H.0, i-marked)))
              (λ w.
              let g : place_of l w.0 ≡ r i = w.3 ∙ f in
              ap (at part) (sym (leader-own-leads t mark i i_low) ∙ ap r (sym g)) ∙ P.saved w.0 w.1 w.2 ∙ ap (at t) g ∙ leader-named t mark i i_low)
              H.1.met

      pub moved_step : (p : ℕ) → p ≡ i → (name' lead' part' : List ℕ) → Renamed mark (at name p) p name lead name' lead' → part' ≡ part_of lead mark part (at name p) p
          → Moved n t mark l from (q + 1) to name' lead' part'
      moved_step p e name' lead' part' W s =
          rw (W.name_is, W.lead_is, s, e, old, head_leads t mark P.table.least few (Covered mark l from q) (Covered mark l from (q + 1)) lead P.leads i mover_next)
          (record {
            table = P.table;
            name-long = put-length name i (r i) ∙ P.name-long;
            part-long = part_length;
            made = λ m c d w. by_cases (ℕ_discrete m i)
                (λ g. rw g (put_same name i (r i) i_low (omega (arith, inside, few, P.name-long))))
                (λ g. put_other name i (r i) m i_low c g ∙ P.made m c d (⊎_elim (λ z. absurd (g z)) (λ z. z) (covered_only m w)));
            kept = λ h c d.
                let less : q < h = omega arith in
                put_other name i (r i) (place_of l h) i_low (R.places.place h (omega arith) d).0 (entry_apart q h a less d) ∙ P.kept h (omega arith) d;
            saved = saved_on;
            leads = leading_step t mark P.table.least few (Covered mark l from q) (Covered mark l from (q + 1)) lead P.leads i mover_next;
          })
        where
          part_length : length (part_of lead mark part (at t i) i) ≡ 1000
          part_length = part_of_length lead mark part (at t i) i ∙ P.part-long

  module _ (t name lead part : List ℕ) (P : Moved n t mark l from to to name lead part) where
    pub moved-split : view n name ≡ split t mark
    moved-split =
        leaders-split t mark (view n name) (view-length n name (omega (arith, P.name-long, P.table.few)) ∙ sym P.table.size)
        (λ i a b.
        let c : i ≤ n = omega (arith, P.table.size) in
        view-at n name i a c
        ∙ P.made i a c
        (⊎_elim (λ p. inr (R.all i a (omega (arith, P.table.few)) p)) (λ p. let e : at mark i ≡ 0 = omega arith in inl e) (lt_or_ge 0 (at mark i))))

    module _ (h : ℕ) (a : from ≤ h) (b : h < to) where
      new_name : at name (place_of l h) ≡ leader (joint t mark) (place_of l h)
      new_name = P.made (place_of l h) (i_low h a b) (i_high h a b) (inr (h, a, b, refl))

      old-name : at part (at name (place_of l h)) ≡ at t (place_of l h)
      old-name = ap (at part) new_name ∙ P.saved h a b

      pub moved-leads : Leads name part (place_of l h)
      moved-leads =
          let low = i_low h a b in
          let high = i_high h a b in
          let w = leader-inside t mark (place_of l h) low in
          let c : place_of l h ≤ length t = omega (arith, P.table.size) in
          record {
            low = low;
            high = omega (arith, P.table.few);
            name_low = rw new_name w.0;
            name_high = rw new_name (omega (arith, w.1, high, P.table.few));
            old_low = rw old-name (P.table.least.low (place_of l h) low c);
            old_high = rw old-name (omega (arith, high, P.table.few, P.table.least.high (place_of l h) low c));
          }

    pub moved-left : Left l from to name part mark lead
    moved-left =
        record {
          forth = R.places.forth;
          inside = R.places.inside;
          mark_long = R.long;
          lead_long = P.leads.long;
          places = moved-leads;
          marks = R.all;
          leads = λ k a b c. let w = lead_entry k a b c in (w.0, w.1, w.2, old-name w.0 w.1 w.2 ∙ w.3);
        }
      where
        -- a leader stands at the old name of an entry's position
        lead_entry : (k : ℕ) → 1 ≤ k → k ≤ 1000 → 1 ≤ at lead k → (h : ℕ) × (from ≤ h) × (h < to) × (at t (place_of l h) ≡ k)
        lead_entry k a b c =
            let H = P.leads.heads k a b c in
            ⊎_elim
            (λ p. let w = R.all (at lead k) c (omega (arith, H.high, P.table.size, P.table.few)) p in (w.0, w.1, w.2, ap (at t) w.3 ∙ H.named))
            (λ p.
            let w = R.all k a b (rw H.named at p) in
            (w.0, w.1, w.2, ap (at t) w.3 ∙ ap (at t) (sym H.named) ∙ P.table.least.own (at lead k) c H.high ∙ H.named))
            H.torn
