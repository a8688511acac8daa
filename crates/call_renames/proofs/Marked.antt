-- The entries of a width stand together and mark their positions: the marks are what the replay rule reads, and the entries form a block. Assumes nothing.
use Prim.Native.Nat.{ℕ, ◌+◌, ◌≤◌, ◌<◌}
use mathlib.Core.Path.{◌≡◌, sym, ap, ◌∙◌}
use mathlib.Core.Logic.{inl, inr, ⊎_elim, by_cases, ◌≢◌}
use mathlib.Core.List.{List}
use native.Mathlib.Decide.{ℕ_discrete}
use native.Mathlib.Omega.{arith}
use Rattle.words.specs.Rows.{rows}
use Rattle.words.specs.Reads.{at}
use Rattle.words.specs.Moves.{move_size, width_of, name_of, place_of}
use Rattle.words.specs.Replay.{under}
use Rattle.words.proofs.Tests.{lt_or_ge}
use Rattle.slots.specs.Slots.{put}
use Rattle.slots.proofs.Laws.{put-length, put_same, put_other}
use Rattle.call_judges.specs.Judge.{Formed}
use Rattle.call_renames.specs.Blocks.{Splits, Marking, Marks, Block, Hit}
use Rattle.words.proofs.Under.{Traced, under_traced}
use Rattle.call_judges.proofs.Orderly.{entry_ranged, entries_ordered, widths_rise, entry_once, under_entry}

-- no entry q of width v is there
abbrev pub Ended : List ℕ → ℕ → ℕ → Type 0
Ended l q v = q < rows move_size l → width_of l q ≢ v

module _ (n : ℕ) (l : List ℕ) (F : Formed n l) where
  pub splits_start : Splits l 1 0
  splits_start =
      record {
        inside = omega arith;
        lower = λ h b. absurd (omega arith);
        upper = λ h a b. (entry_ranged n l F h b).width_low;
      }

  -- where the entries of width v end, those of the widths to v do
  splits_next : (v q : ℕ) → q ≤ rows move_size l → ((h : ℕ) → h < q → width_of l h ≤ v) → ((h : ℕ) → q ≤ h → h < rows move_size l → v ≤ width_of l h) → Ended l q v → Splits l (v + 1) q
  splits_next v q a low high e =
      record {
        inside = a;
        lower = λ h b. omega (arith, low h b);
        upper = λ h b c.
            let more : v ≤ width_of l q = high q (omega arith) (omega arith) in
            by_cases (ℕ_discrete (width_of l q) v)
            (λ g. absurd (e (omega arith) g))
            (λ g. omega (arith, widths_rise n l F q h b c));
      }

  module _ (v from : ℕ) (S : Splits l v from) where
    module _ (q : ℕ) (inside : q < rows move_size l) (e : width_of l q ≡ v) (mark : List ℕ) (M : Marking l v q mark) where
      pub mark_inside : (1 ≤ place_of l q) × (place_of l q ≤ 1000)
      mark_inside = let R = entry_ranged n l F q inside in (R.place_low, omega (arith, R.place_high, F.few))

      pub marking_step : (mark' : List ℕ) → mark' ≡ put mark (place_of l q) (name_of l q) → Marking l v (q + 1) mark'
      marking_step mark' p =
          rw p
          (record {
            long = put-length mark (place_of l q) (name_of l q) ∙ M.long;
            lower = λ h b. by_cases (ℕ_discrete h q) (λ g. omega (arith, ap (width_of l) g)) (λ g. M.lower h (omega arith));
            hit = λ h b w. by_cases (ℕ_discrete h q)
                (λ g. rw g (put_same mark (place_of l q) (name_of l q) mark_inside.0 (omega (arith, mark_inside.1, M.long))))
                (λ g. other (place_of l h) (entry_ranged n l F h (omega arith)).place_low (λ c. g (entry_once n l F h q (omega arith) inside (w ∙ sym e) c)) ∙ M.hit h (omega arith) w);
            miss = λ i a b free.
                other i a (λ c. free q (omega arith) e (sym c)) ∙ M.miss i a b (λ h d. free h (omega arith));
          })
        where
          other : (i : ℕ) → 1 ≤ i → i ≢ place_of l q → at (put mark (place_of l q) (name_of l q)) i ≡ at mark i
          other i a ne = put_other mark (place_of l q) (name_of l q) i mark_inside.0 a ne

    pub marking_end : (q : ℕ) (mark : List ℕ) → from ≤ q → q ≤ rows move_size l → Marking l v q mark → Ended l q v → Marks l v mark × Splits l (v + 1) q
    marking_end q mark a b M e = (record { long = M.long; held = λ i c d. go i c d (under_traced v i l) }, T)
      where
        T : Splits l (v + 1) q
        T = splits_next v q b M.lower (λ h c d. S.upper h (omega arith) d) e

        go : (i : ℕ) → 1 ≤ i → i ≤ 1000 → Traced l v i → at mark i ≡ under l v i
        go i c d (inl E) =
            let early : E.k < q = ⊎_elim (λ p. p) (λ p. absurd (omega (arith, T.upper E.k p E.inside, E.width))) (lt_or_ge E.k q) in
            ap (at mark) (sym E.place) ∙ M.hit E.k early E.width ∙ sym E.name
        go i c d (inr N) = M.miss i c d (λ h p. N.1 h (omega arith)) ∙ sym N.0

    module _ (to : ℕ) (T : Splits l (v + 1) to) (mark : List ℕ) (M : Marks l v mark) where
      block_forth : from ≤ to
      block_forth = ⊎_elim (λ p. absurd (omega (arith, S.lower to p, T.upper to (omega arith) (omega (arith, S.inside))))) (λ p. p) (lt_or_ge to from)

      block_width : (h : ℕ) → from ≤ h → h < to → width_of l h ≡ v
      block_width h a b = omega (arith, S.upper h a (omega (arith, T.inside)), T.lower h b)

      pub marks_block : Block n l mark from to
      marks_block =
          record {
            long = M.long;
            places = record { forth = block_forth; inside = T.inside; place = λ h a b. let R = entry_ranged n l F h (omega (arith, T.inside)) in (R.place_low, R.place_high) };
            marked = λ h a b.
                let c : h < rows move_size l = omega (arith, T.inside) in
                let R = entry_ranged n l F h c in
                (R.name_low, M.held (place_of l h) R.place_low (omega (arith, R.place_high, F.few)) ∙ under_entry n l F v h c (block_width h a b));
            rises = λ g h a b c.
                let same : width_of l g ≡ width_of l h = block_width g a (omega arith) ∙ sym (block_width h (omega arith) c) in
                ⊎_elim (λ p. absurd (omega arith)) (λ p. p.1) (entries_ordered n l F g h b (omega (arith, T.inside)));
            all = λ i a b c. go i (rw (M.held i a b) at c) (under_traced v i l);
          }
        where
          go : (i : ℕ) → 1 ≤ under l v i → Traced l v i → Hit l from to i
          go i c (inl E) =
              let low : from ≤ E.k = ⊎_elim (λ p. absurd (omega (arith, S.lower E.k p, E.width))) (λ p. p) (lt_or_ge E.k from) in
              let high : E.k < to = ⊎_elim (λ p. p) (λ p. absurd (omega (arith, T.upper E.k p E.inside, E.width))) (lt_or_ge E.k to) in
              (E.k, low, high, E.place)
          go i c (inr N) = absurd (omega (arith, N.0))
