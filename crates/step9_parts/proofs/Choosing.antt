-- The best part of each group, turn by turn, and the flags of the others: whichever of two parts goes behind the other is not the big one.
-- Assumes nothing.
use Prim.Native.Nat.{ℕ, ◌+◌, ◌≤◌, ◌<◌}
use mathlib.Core.Path.{◌≡◌, refl, sym, ap, ◌∙◌}
use mathlib.Core.Logic.{◌⊎◌, inl, inr, ⊎_elim, by_cases, ◌≢◌}
use mathlib.Core.Bool.{true, false, ◌&&◌, not}
use mathlib.Core.List.{List}
use native.Mathlib.Decide.{ℕ_discrete}
use native.Mathlib.Omega.{arith}
use lib.ListN.{length}
use lib.Dec.{eqb}
use borrow.Author.Tests.{eqb-true, eq-eqb}
use Rattle.words.specs.Range.{bit}
use Rattle.words.specs.Reads.{at}
use Rattle.words.specs.Groups.{size, big, parts_small}
use Rattle.words.proofs.Tests.{either, clash, lt_or_ge}
use Rattle.words.proofs.Small.{parts_small_at, parts_small_length}
use Rattle.slots.specs.Slots.{put, put_some}
use Rattle.slots.proofs.Laws.{put_same, put_other, some_same, some_other}
use Rattle.step1_rows.specs.Rows.{row, QUE, REST, MANY}
use Rattle.refine.specs.Refine.{has, next_of, stayer}
use Rattle.refine.specs.Phases.{Flagged}
use Rattle.refine.specs.Leaving.{Begins, Splits}
use Rattle.refine.proofs.Queues.{has-inside}
use Rattle.refine.proofs.Next.{next-length}
use Rattle.refine.proofs.Moved.{stayer_is, next-name, next-name-moved, next-name-kept, kept_same}
use Rattle.step8_groups.specs.Turns.{Waits}
use Rattle.step8_groups.specs.Groups.{Regrouped}
use Rattle.step8_groups.proofs.Grouping.{waits_more}
use Rattle.step9_parts.specs.Turns.{takes, winner, loser, PartOf, Tried, Ahead, Leads, Lesser, ChosenTo}
use Rattle.step9_parts.proofs.Order.{ahead_self, ahead_join, ahead_small, ahead-big, takes-ahead, takes-behind}

module _ {t S : List ℕ} {n h : ℕ} {a : List (List ℕ)} (R : Regrouped t S n h a) where
  abbrev u : List ℕ
  u = next_of t S

  abbrev que : List ℕ
  que = row a QUE

  -- ---- the parts of a group, and which of them wait

  pub part_of : (i : ℕ) → 1 ≤ i → i ≤ length t → PartOf t S (at t i) (at u i)
  part_of i x y = let N = next-name t S R.known.least R.known.lined i x y in record { low = N.0; high = omega (arith, N.1); named = N.2; of = N.3 }

  pub part-begins : (i : ℕ) → has S i ≡ true → Begins t S (at u i)
  part-begins i m =
      let l = has-inside S t R.known.lined i m in
      let b : i ≤ length t = omega (arith, l.1) in
      record { moves = (next-name-moved t S R.known.least R.known.lined i l.0 b m).0; named = (part_of i l.0 b).named }

  pub begins-part : {c : ℕ} → Begins t S c → PartOf t S (at t c) c
  begins-part {c} B = let l = has-inside S t R.known.lined c B.moves in rw B.named at (part_of c l.0 (omega (arith, l.1)))

  -- a part that does not move is what is left
  part_left : {k s : ℕ} → PartOf t S k s → has S s ≡ false → stayer t S k ≡ s
  part_left {k} {s} P m = ap (stayer t S) (sym P.of) ∙ next-name-kept t S R.known.least R.known.lined s P.low P.high m ∙ P.named

  part-many : {k s : ℕ} → Splits t S k → PartOf t S k s → at (row a MANY) s ≡ size u s
  part-many {k} {s} X P =
      ⊎_elim
      (λ m. R.many s (record { moves = m; named = P.named }))
      (λ m. let e = part_left P m in rw e at (R.left k X (rw e P.low)))
      (either (has S s))

  -- at first all parts that moved wait
  pub waits_first : (c : ℕ) → Begins t S c → Waits que h 0 c
  waits_first c B = let w = R.parts.all c B in record { place = w.0; low = w.1; high = w.2; is = w.3 }

  pub waits_begins : {q s : ℕ} → Waits que h q s → Begins t S s
  waits_begins W = rw W.is at (R.parts.part W.place (omega (arith, W.low)) W.high)

  -- and what is left of a group leads
  pub choose_start : {flag : List ℕ} → ((s : ℕ) → 1 ≤ s → s ≤ 1000 → at flag s ≡ 0) → ChosenTo t S que h 0 (row a REST) flag
  choose_start E =
      record {
        best = λ k X.
            rw (R.rests k X)
            (record {
              is = λ l.
                  let Z = stayer_is t S k (stayer t S k) refl l in
                  let e = next-name-kept t S R.known.least R.known.lined (stayer t S k) l Z.high Z.kept in
                  (rw (← e, Z.of) at (part_of (stayer t S k) l Z.high), λ w. clash (waits_begins w).moves Z.kept);
              wins = λ s w.
                  let e = part_left w.0 (⊎_elim (λ m. absurd (w.1 (waits_first s (record { moves = m; named = w.0.named })))) (λ m. m) (either (has S s))) in
                  rw e (w.0.low, ahead_self u s, inl refl);
            });
        only = λ s l m. inl (E s l m);
      }

  -- ---- the turn of c

  module _ {q c : ℕ} (l : q < h) (e : c ≡ at que (q + 1)) where
    pub turn_waits : Waits que h q c
    turn_waits = record { place = q + 1; low = omega arith; high = omega arith; is = sym e }

    pub turn-part : PartOf t S (at t c) c
    turn-part = begins-part (waits_begins turn_waits)

    pub waits_less : {s : ℕ} → Waits que h (q + 1) s → Waits que h q s
    waits_less W = record { place = W.place; low = omega (arith, W.low); high = W.high; is = W.is }

    -- no part has two turns
    pub waits_other : {s : ℕ} → Waits que h (q + 1) s → s ≢ c
    waits_other W z = omega (arith, W.low, R.parts.once W.place (q + 1) (omega (arith, W.low)) W.high (omega arith) (omega arith) (W.is ∙ z ∙ e))

    tried_more : {k s : ℕ} → Tried t S que h q k s → Tried t S que h (q + 1) k s
    tried_more w = (w.0, λ x. w.1 (waits_less x))

    tried_cases : (k s : ℕ) → Tried t S que h (q + 1) k s → Tried t S que h q k s ⊎ ((s ≡ c) × (at t c ≡ k))
    tried_cases k s w = by_cases (ℕ_discrete s c) (λ z. inr (z, ap (at t) (sym z) ∙ w.0.of)) (λ ne. inl (w.0, λ x. w.1 (waits_more e x ne)))

    module _ {rest flag : List ℕ} (C : ChosenTo t S que h q rest flag) where
      abbrev k : ℕ
      k = at t c

      abbrev b : ℕ
      b = at rest k

      X : Splits t S k
      X = record { who = c; moves = (waits_begins turn_waits).moves; of = refl }

      D : Leads t S que h q flag k b
      D = C.best k X

      places : (s : ℕ) → s ≤ length t → s ≤ 1000
      places s p = omega (arith, R.known.long, R.known.few)

      -- what is asked of the turn
      pub choose_asks : at rest (at t c) ≤ 1000
      choose_asks = ⊎_elim (λ p. places b (D.is p).0.high) (λ p. omega arith) (lt_or_ge 0 b)

      module _ (rest-long : length rest ≡ 1000) (flag-long : length flag ≡ 1000) where
        -- of b and c, v leads and x gets a flag
        choose_on : (v x : ℕ) → 1 ≤ v → x ≤ 1000 → Tried t S que h (q + 1) k v → (1 ≤ x → PartOf t S k x × Ahead u v x × (v ≢ x))
            → ((s : ℕ) → (s ≡ b) ⊎ (s ≡ c) → (s ≡ v) ⊎ (s ≡ x)) → ChosenTo t S que h (q + 1) (put rest k v) (put_some flag x 1)
        choose_on v x low high is beats covers =
            record {
              best = λ m Y. by_cases (ℕ_discrete m k)
                  (λ z.
                  rw (z, put_same rest k v k_low (omega (arith, k_high, rest-long)))
                  (record {
                    is = λ _. is;
                    wins = λ s w. ⊎_elim
                        (λ o.
                        let y = D.wins s o in
                        let f = two b y.0 (inl refl) in
                        (low, ahead_join u v b s f.0 y.1, ⊎_elim (λ z. rw z f.1) (λ z. inr (stays s o.0.low z)) y.2))
                        (λ z. let f = two s w.0.low (inr z.0) in (low, f.0, f.1))
                        (tried_cases k s w);
                  }))
                  (λ ne.
                  let H = C.best m Y in
                  rw (put_other rest k v m k_low (splits_low m Y) ne)
                  (record {
                    is = λ p. tried_more (H.is p);
                    wins = λ s w. ⊎_elim
                        (λ o. let y = H.wins s o in (y.0, y.1, ⊎_elim (λ z. inl z) (λ z. inr (stays s o.0.low z)) y.2))
                        (λ z. absurd (ne (sym z.1)))
                        (tried_cases m s w);
                  }));
              only = λ i p m. by_cases (ℕ_discrete i x)
                  (λ z.
                  let w = beats (omega (arith, z)) in
                  rw z (inr (
                    raised (omega (arith, z)),
                    record {
                      high = w.0.high;
                      named = w.0.named;
                      beaten = ahead_small u t x v low (rw (next-length t S) is.0.high) is.0.named (is.0.of ∙ sym w.0.of) w.1 w.2;
                    },
                  )))
                  (λ ne. rw (some_other flag x 1 i p ne) (C.only i p m));
            }
          where
            k_low : 1 ≤ k
            k_low = R.known.least.low c turn-part.low turn-part.high

            k_high : k ≤ 1000
            k_high = omega (arith, R.known.least.high c turn-part.low turn-part.high, places c turn-part.high)

            splits_low : (m : ℕ) → Splits t S m → 1 ≤ m
            splits_low m Y = let r = has-inside S t R.known.lined Y.who Y.moves in rw (← Y.of) (R.known.least.low Y.who r.0 (omega (arith, r.1)))

            raised : 1 ≤ x → at (put_some flag x 1) x ≡ 1
            raised p = some_same flag x 1 p (rw flag-long high)

            -- a flag stays raised
            stays : (s : ℕ) → 1 ≤ s → at flag s ≡ 1 → at (put_some flag x 1) s ≡ 1
            stays s p f = by_cases (ℕ_discrete s x) (λ z. rw z (raised (omega (arith, z)))) (λ ne. some_other flag x 1 s p ne ∙ f)

            two : (s : ℕ) → 1 ≤ s → (s ≡ b) ⊎ (s ≡ c) → Ahead u v s × ((s ≡ v) ⊎ (at (put_some flag x 1) s ≡ 1))
            two s p o =
                ⊎_elim
                (λ z. rw z (ahead_self u v, inl refl))
                (λ z. let g : 1 ≤ x = omega (arith, z) in rw z ((beats g).1, inr (raised g)))
                (covers s o)

        pub choose_step : ChosenTo t S que h (q + 1) (put rest (at t c) (winner (row a MANY) (at rest (at t c)) c)) (put_some flag (loser (row a MANY) (at rest (at t c)) c) 1)
        unfolding winner loser
        choose_step =
            ⊎_elim
            (λ y.
            rw y
            (choose_on c b turn-part.low choose_asks (turn-part, λ w. waits_other w refl)
            (λ p. ((D.is p).0, takes-ahead u (row a MANY) b c many-b many-c y p, λ z. apart p (sym z)))
            (λ s o. ⊎_elim inr inl o)))
            (λ y.
            let w = takes-behind u (row a MANY) b c many-b many-c y in
            rw y (choose_on b c w.0 (places c turn-part.high) (tried_more (D.is w.0)) (λ _. (turn-part, w.1, apart w.0)) (λ s o. o)))
            (either (takes (row a MANY) b c))
          where
            many-b : 1 ≤ b → at (row a MANY) b ≡ size u b
            many-b p = part-many X (D.is p).0

            many-c : at (row a MANY) c ≡ size u c
            many-c = part-many X turn-part

            apart : 1 ≤ b → b ≢ c
            apart p z = (D.is p).1 (rw z turn_waits)

  -- ---- at last every part has been tried

  module _ {rest flag : List ℕ} (C : ChosenTo t S que h h rest flag) (flag-long : length flag ≡ 1000) where
    part_tried : (i : ℕ) → 1 ≤ i → i ≤ length t → Tried t S que h h (at t i) (at u i)
    part_tried i x y = (part_of i x y, λ w. omega (arith, w.low, w.high))

    -- a part without a flag goes before all parts of its group, or its group is whole
    unflagged_big : (s : ℕ) → 1 ≤ s → s ≤ length t → at u s ≡ s → at flag s ≡ 0 → big t u s ≡ true
    unflagged_big s x y own f = ahead-big u t s (λ j c d e. go j c (rw (next-length t S) at d) e (either (has S s)) (either (has S j)))
      where
        split : (j : ℕ) → 1 ≤ j → j ≤ length t → at t j ≡ at t s → Splits t S (at t s) → Ahead u s (at u j)
        split j c d e X =
            let H = C.best (at t s) X in
            ⊎_elim
            (λ z. rw (← z) at (H.wins (at u j) (rw e at (part_tried j c d))).1)
            (λ z. absurd (omega (arith, z, f)))
            (H.wins s (rw own at (part_tried s x y))).2

        go : (j : ℕ) → 1 ≤ j → j ≤ length t → at t j ≡ at t s → (has S s ≡ true) ⊎ (has S s ≡ false) → (has S j ≡ true) ⊎ (has S j ≡ false) → Ahead u s (at u j)
        go j c d e (inl m) _ = split j c d e (record { who = s; moves = m; of = refl })
        go j c d e (inr m) (inl o) = split j c d e (record { who = j; moves = o; of = e })
        go j c d e (inr m) (inr o) = rw (kept_same t S R.known.least R.known.lined j s c d x y o m e ∙ own) (ahead_self u s)

    pub choose_end : Flagged (parts_small t (next_of t S)) flag
    choose_end =
        record {
          long = flag-long;
          held = λ s x y. let l : s ≤ length t = rw long at y in
              rw (parts_small_at u t s x (rw (next-length t S) l))
              (flag_is s x l (C.only s x (omega (arith, R.known.long, R.known.few))));
          rest = λ s x y. ⊎_elim (λ z. z) (λ o. absurd (omega (arith, long, x, o.1.high))) (C.only s (omega arith) y);
        }
      where
        long : length (parts_small t u) ≡ length t
        long = parts_small_length u t ∙ next-length t S

        flag_is : (s : ℕ) → 1 ≤ s → s ≤ length t → (at flag s ≡ 0) ⊎ ((at flag s ≡ 1) × Lesser t S s) → at flag s ≡ bit (eqb (at u s) s && not (big t u s))
        flag_is s x l (inr o) = rw (o.0, eq-eqb (at u s) s o.1.named, o.1.beaten) refl
        flag_is s x l (inl z) =
            rw z
            (⊎_elim
            (λ (e : eqb (at u s) s ≡ true). rw (e, unflagged_big s x l (eqb-true (at u s) s e) z) refl)
            (λ (e : eqb (at u s) s ≡ false). rw e refl)
            (either (eqb (at u s) s)))
