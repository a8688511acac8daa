-- The codes while a queue moves: the next position of the queue may go to the end of its new group, and once all have moved the codes join
-- the positions that the new names join. The least position of a code is at first its group's name, and at last the least that stays. Assumes nothing.
use Prim.Native.Nat.{ℕ, zero, suc, ◌+◌, ◌≤◌, ◌<◌}
use mathlib.Core.Path.{◌≡◌, refl, sym, ap, ◌∙◌}
use mathlib.Core.Logic.{◌⊎◌, inl, inr, ⊎_elim, ◌≢◌, by_cases}
use mathlib.Core.Bool.{true, false}
use mathlib.Core.List.{List}
use native.Mathlib.Omega.{arith}
use native.Mathlib.Decide.{ℕ_discrete}
use native.Mathlib.Nat.{eq-or-lt_of_le}
use lib.ListN.{length}
use Rattle.words.specs.Reads.{at}
use Rattle.words.specs.Groups.{gap}
use Rattle.words.proofs.Tests.{either, clash, lt_or_ge}
use Rattle.slots.specs.Slots.{put}
use Rattle.slots.proofs.Laws.{put-length, put_same, put_other}
use Rattle.refine.specs.Refine.{has, next_of, stayer}
use Rattle.refine.specs.Links.{back, Linked}
use Rattle.refine.specs.Leaving.{Known}
use Rattle.refine.proofs.Queues.{has_is, is_has}
use Rattle.refine.proofs.Next.{next-length}
use Rattle.refine.proofs.Links.{gap_nearest, back-before, gap_agrees, back_agrees}
use Rattle.refine.proofs.Moved.{stayer_is, stays-stayer, next-moved, next-kept, kept_same, next-name}
use Rattle.step6_leave.specs.Links.{joined}
use Rattle.step6_leave.proofs.Stores.{joined-some, joined-none}
use Rattle.step7_moves.specs.Relink.{Place, codes, Past}
use Rattle.step7_moves.specs.Moving.{Lead}
use Rattle.step7_moves.proofs.OneMove.{gap-free}
use Rattle.step7_moves.proofs.Prior.{past_before}

-- ---- the least position of any code k, where i gets another code x: it stays if one is before i, and else it is the next

module _ (c : List ℕ) (i x k : ℕ) (a : 1 ≤ i) (b : i ≤ length c) (new : x ≢ k) where
  abbrev c' : List ℕ
  c' = put c i x

  long : length c' ≡ length c
  long = put-length c i x

  -- no position gets the code k
  still : (j : ℕ) → 1 ≤ j → at c' j ≡ k → (j ≢ i) × (at c j ≡ k)
  still j l e =
      by_cases (ℕ_discrete j i)
      (λ d. absurd (new (sym (put_same c i x a b) ∙ ap (at c') (sym d) ∙ e)))
      (λ d. (d, sym (put_other c i x j a l d) ∙ e))

  -- a group keeps its least position if that is not i, as where i is in another group, or one is before i
  module _ {j : ℕ} (M : Lead c k j) where
    lead_kept : (1 ≤ j → j ≢ i) → Lead c' k j
    lead_kept ne =
        record {
          high = omega (arith, long, M.high);
          same = λ l. put_other c i x j a l (ne l) ∙ M.same l;
          free = λ l h m r e. M.free l h (omega (arith, long)) r (still l h e).1;
        }

    pub lead_other : at c i ≢ k → Lead c' k j
    lead_other ne = lead_kept (λ l e. ne (ap (at c) (sym e) ∙ M.same l))

    pub lead_before : at c i ≡ k → 1 ≤ back c i → Lead c' k j
    lead_before own l =
        let B = back-before c i a in
        let low = B.low in
        lead_kept (λ h e. M.free (back c i) l (omega arith) (λ o. omega arith) (B.same l ∙ own))

  -- else it has the next
  pub lead_next : at c i ≡ k → back c i ≡ 0 → Lead c' k (joined i (gap c i))
  lead_next own z =
      ⊎_elim
      (λ h.
      let G = gap_nearest c i b in
      rw (joined-some i (gap c i) h)
      (record {
        high = omega (arith, long, G.high);
        same = λ l. put_other c i x (i + gap c i) a l (omega arith) ∙ G.same ∙ own;
        free = λ l m o r. none l m o (λ y. r (omega arith));
      }))
      (λ h. rw (joined-none i (gap c i) (omega arith)) (record { high = omega arith; same = λ l. absurd (omega arith); free = λ l m o r. none l m o (λ y. omega arith) }))
      (lt_or_ge 0 (gap c i))
    where
      none : (l : ℕ) → 1 ≤ l → l ≤ length c' → (1 ≤ gap c i → l < i + gap c i) → at c' l ≢ k
      none l h m r e =
          let s = still l h e in
          ⊎_elim
          (λ o. (back-before c i a).free l (omega arith) o (s.1 ∙ sym own))
          (λ o. gap-free c i b l (omega (arith, s.0)) (omega (arith, long)) r (s.1 ∙ sym own))
          (lt_or_ge l i)

-- ---- the codes of Q

module _ {t Q : List ℕ} {n : ℕ} (K : Known t Q n) where
  abbrev u : List ℕ
  u = next_of t Q

  pub codes-length : (q : ℕ) → length (codes t u Q q) ≡ length t
  unfolding codes
  codes-length zero = refl
  codes-length (suc q) = put-length (codes t u Q q) (at Q (suc q)) (1000 + at u (at Q (suc q))) ∙ codes-length q

  -- a position that has moved has its new name, above 1,000, and any other its old name
  pub codes_at : (q j : ℕ) → q ≤ length Q → 1 ≤ j → (Past Q q j × (at (codes t u Q q) j ≡ 1000 + at u j)) ⊎ ((Past Q q j → ⊥) × (at (codes t u Q q) j ≡ at t j))
  unfolding codes
  codes_at zero j b a = inr (λ w. omega (arith, w.1, w.2), refl)
  codes_at (suc q) j b a =
      let s = at Q (suc q) in
      let i = K.lined.inside (suc q) (omega arith) b in
      by_cases (ℕ_discrete j s)
      (λ e. inl ((suc q, omega arith, omega arith, sym e), rw e (put_same (codes t u Q q) s (1000 + at u s) i.0 (omega (arith, i.1, codes-length q)))))
      (λ ne.
      let same = put_other (codes t u Q q) s (1000 + at u s) j i.0 a ne in
      ⊎_elim
      (λ w. inl ((w.0.0, w.0.1, omega (arith, w.0.2), w.0.3), same ∙ w.1))
      (λ w. inr (λ p. ⊎_elim (λ e. ne (sym p.3 ∙ ap (at Q) e)) (λ l. w.0 (p.0, p.1, omega arith, p.3)) (eq-or-lt_of_le p.2), same ∙ w.1))
      (codes_at q j (omega arith) a))

  pub codes-done : (q j : ℕ) → q ≤ length Q → 1 ≤ j → Past Q q j → at (codes t u Q q) j ≡ 1000 + at u j
  codes-done q j b a p = ⊎_elim (λ w. w.1) (λ w. absurd (w.0 p)) (codes_at q j b a)

  pub codes-rest : (q j : ℕ) → q ≤ length Q → 1 ≤ j → (Past Q q j → ⊥) → at (codes t u Q q) j ≡ at t j
  codes-rest q j b a p = ⊎_elim (λ w. absurd (p w.0)) (λ w. w.1) (codes_at q j b a)

  name-some : (j : ℕ) → 1 ≤ j → j ≤ length t → 1 ≤ at u j
  name-some j a b = (next-name t Q K.least K.lined j a b).0

  -- what has the code of a new name has moved, and has that name
  pub codes-moved : (q j v : ℕ) → q ≤ length Q → 1 ≤ j → j ≤ length t → 1 ≤ v → at (codes t u Q q) j ≡ 1000 + v → Past Q q j × (at u j ≡ v)
  codes-moved q j v b c d h e =
      ⊎_elim (λ w. (w.0, omega (arith, e, w.1))) (λ w. absurd (omega (arith, e, w.1, K.least.high j c d, K.few, K.long))) (codes_at q j b c)

  -- a position whose code is a name has not moved
  pub codes-name : (q j k : ℕ) → q ≤ length Q → 1 ≤ j → j ≤ length t → k ≤ 1000 → at (codes t u Q q) j ≡ k → at t j ≡ k
  codes-name q j k b a c h e = ⊎_elim (λ w. absurd (omega (arith, e, w.1, name-some j a c))) (λ w. sym w.1 ∙ e) (codes_at q j b a)

  -- the next position of the queue may go to the end of its new group
  pub codes_place : (q : ℕ) → suc q ≤ length Q → Place (codes t u Q q) (at Q (suc q)) (1000 + at u (at Q (suc q))) (back u (at Q (suc q)))
  codes_place q b =
      let i = at Q (suc q) in
      let w = K.lined.inside (suc q) (omega arith) b in
      let B = back-before u i w.0 in
      let below = B.low in
      let some = name-some i w.0 (omega (arith, w.1)) in
      let moves = is_has Q (suc q) (omega arith) b in
      record {
        low = w.0;
        high = omega (arith, w.1, codes-length q);
        later = λ j c d e.
            let d' : j ≤ length t = omega (arith, codes-length q) in
            let p = codes-moved q j (at u i) (omega arith) c d' some e in
            let m = next-moved t Q K.least K.lined i j w.0 (omega (arith, w.1)) c d' moves p.1 in
            let same = ap (λ (v : ℕ). at t (suc v)) p.0.3 in
            ⊎_elim (λ l. absurd (omega (arith, same, m.2))) (λ l. omega (arith, l.1, p.0.3)) (K.lined.rises p.0.0 (suc q) p.0.1 (omega (arith, p.0.2)) b);
        behind = below;
        same = λ h.
            let m = next-moved t Q K.least K.lined i (back u i) w.0 (omega (arith, w.1)) h (omega (arith, w.1)) moves (B.same h) in
            let here : Past Q (suc q) i = (suc q, omega arith, omega arith, refl) in
            codes-done q (back u i) (omega arith) h (past_before q K b here (omega arith) m.0 below m.2) ∙ ap (λ (v : ℕ). 1000 + v) (B.same h);
        free = λ j l m e. B.free j l m (codes-moved q j (at u i) (omega arith) (omega arith) (omega (arith, w.1)) some e).1;
      }

  -- ---- once all have moved

  abbrev c : List ℕ
  c = codes t u Q (length Q)

  pub end_moved : (i : ℕ) → 1 ≤ i → has Q i ≡ true → at c i ≡ 1000 + at u i
  end_moved i a h = codes-done (length Q) i (omega arith) a (has_is Q i h)

  pub end_kept : (i : ℕ) → 1 ≤ i → has Q i ≡ false → at c i ≡ at t i
  end_kept i a h = codes-rest (length Q) i (omega arith) a (λ w. clash (ap (has Q) (sym w.3) ∙ is_has Q w.0 w.1 w.2) h)

  c-long : length c ≡ length t
  c-long = codes-length (length Q)

  module _ (i j : ℕ) (a : 1 ≤ i) (b : i ≤ length c) (d : 1 ≤ j) (e : j ≤ length c) where
    b' : i ≤ length t
    b' = omega (arith, c-long)

    e' : j ≤ length t
    e' = omega (arith, c-long)

    codes_join : at c i ≡ at c j → at u i ≡ at u j
    codes_join s = go (either (has Q i)) (either (has Q j))
      where
        go : (has Q i ≡ true) ⊎ (has Q i ≡ false) → (has Q j ≡ true) ⊎ (has Q j ≡ false) → at u i ≡ at u j
        go (inl p) (inl q) = omega (arith, s, end_moved i a p, end_moved j d q)
        go (inl p) (inr q) = absurd (omega (arith, s, end_moved i a p, end_kept j d q, K.least.high j d e', e', K.few, K.long, name-some i a b'))
        go (inr p) (inl q) = absurd (omega (arith, s, end_kept i a p, end_moved j d q, K.least.high i a b', b', K.few, K.long, name-some j d e'))
        go (inr p) (inr q) = kept_same t Q K.least K.lined i j a b' d e' p q (sym (end_kept i a p) ∙ s ∙ end_kept j d q)

    join_codes : at u i ≡ at u j → at c i ≡ at c j
    join_codes s =
        ⊎_elim
        (λ p. end_moved i a p ∙ ap (λ (v : ℕ). 1000 + v) s ∙ sym (end_moved j d (next-moved t Q K.least K.lined i j a b' d e' p (sym s)).0))
        (λ p. let m = next-kept t Q K.least K.lined i j a b' d e' p (sym s) in end_kept i a p ∙ sym m.1 ∙ sym (end_kept j d m.0))
        (either (has Q i))

  -- the links of the codes are those of the new names
  pub codes_linked : {dist prev : List ℕ} → Linked c dist prev → Linked u dist prev
  codes_linked L =
      let long : length c ≡ length u = c-long ∙ sym (next-length t Q) in
      record {
        next = λ i a b. L.next i a (omega arith) ∙ gap_agrees c u long codes_join join_codes i a (omega arith);
        last = λ i a b. L.last i a (omega arith) ∙ back_agrees c u long codes_join join_codes i a (omega arith);
      }

  -- ---- the least position of a group's code

  -- at first the least position of a group is its name
  pub lead_first : (s k : ℕ) → s ≤ length Q → 1 ≤ k → k ≤ length t → at t k ≡ k → ((r : ℕ) → 1 ≤ r → r ≤ s → at t (at Q r) ≢ k) → Lead (codes t u Q s) k k
  lead_first s k b a h own free =
      let long = codes-length s in
      record {
        high = omega arith;
        same = λ l. codes-rest s k b a (λ w. free w.0 w.1 w.2 (ap (at t) w.3 ∙ own)) ∙ own;
        free = λ j l m r e. omega (arith, r a, codes-name s j k b l (omega arith) (omega (arith, K.few, K.long)) e, K.least.high j l (omega arith));
      }

  -- at last it is the least that stays
  pub lead_last : (k j : ℕ) → k ≤ 1000 → Lead (c) k j → j ≡ stayer t Q k
  lead_last k j h M =
      ⊎_elim
      (λ l.
      let b : j ≤ length t = omega (arith, M.high, long) in
      sym (stays-stayer t Q k j
      (record {
        low = l;
        high = b;
        of = codes-name (length Q) j k (omega arith) l b h (M.same l);
        kept = ⊎_elim (λ p. absurd (omega (arith, M.same l, end_moved j l p, name-some j l b))) (λ p. p) (either (has Q j));
        least = λ i a m e. stays i a e (M.free i a (omega (arith, long)) (λ o. m));
      })))
      (λ l.
      ⊎_elim
      (λ m.
      let W = stayer_is t Q k (stayer t Q k) refl m in
      clash (stays (stayer t Q k) m W.of (M.free (stayer t Q k) m (omega (arith, W.high, long)) (λ o. omega arith))) W.kept)
      (λ m. omega arith)
      (lt_or_ge 0 (stayer t Q k)))
      (lt_or_ge 0 j)
    where
      long : length (c) ≡ length t
      long = codes-length (length Q)

      -- a position of k that stays has the code k
      stays : (i : ℕ) → 1 ≤ i → at t i ≡ k → at (c) i ≢ k → has Q i ≡ true
      stays i a e ne = ⊎_elim (λ p. p) (λ p. absurd (ne (end_kept i a p ∙ e))) (either (has Q i))
