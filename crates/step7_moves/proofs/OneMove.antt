-- One position leaves its group for the end of another: the links that the stores leave are those of the codes with that one changed.
-- Each distance and each position before is determined by its neighbours (`Nearest`, `Before`). Assumes nothing.
use Prim.Native.Nat.{ℕ, ◌+◌, ◌-◌, ◌≤◌, ◌<◌}
use mathlib.Core.Path.{◌≡◌, sym, ap, ◌∙◌}
use mathlib.Core.Logic.{◌⊎◌, inl, inr, ⊎_elim, by_cases, ◌≢◌}
use mathlib.Core.List.{List}
use native.Mathlib.Omega.{arith}
use native.Mathlib.Decide.{ℕ_discrete}
use lib.ListN.{length}
use Rattle.words.specs.Reads.{at}
use Rattle.words.specs.Groups.{gap}
use Rattle.words.proofs.Tests.{lt_or_ge}
use Rattle.slots.specs.Slots.{put, put_some}
use Rattle.slots.proofs.Laws.{put-length, put_same, put_other, some-length, some_same, some_other}
use Rattle.refine.specs.Links.{back, Linked}
use Rattle.refine.proofs.Links.{Nearest, Before, gap_nearest, nearest_gap, back-before, before_back}
use Rattle.step6_leave.specs.Links.{joined, bridged, put_ahead}
use Rattle.step6_leave.proofs.Stores.{ahead-length, ahead-same, ahead_other, joined-some, joined-none}
use Rattle.step7_moves.specs.Relink.{dist_after, prev_after, Place}

-- ---- the next position of a group: none before it, and none at all if there is no next

module _ (c : List ℕ) (j : ℕ) where
  pub gap_is : (d : ℕ) → 1 ≤ j → j + d ≤ length c → at c (j + d) ≡ at c j → ((k : ℕ) → j < k → k ≤ length c → (1 ≤ d → k < j + d) → at c k ≢ at c j) → gap c j ≡ d
  gap_is d a b e f =
      nearest_gap c j d a (omega arith) (record { high = b; same = e; free = λ k l m. f k l (omega arith) (λ h. m); end = λ z k l m. f k l m (λ h. omega arith) })

  pub gap-free : j ≤ length c → (k : ℕ) → j < k → k ≤ length c → (1 ≤ gap c j → k < j + gap c j) → at c k ≢ at c j
  gap-free b k l m r = let G = gap_nearest c j b in ⊎_elim (λ h. G.free k l (r h)) (λ z. G.end (omega arith) k l m) (lt_or_ge 0 (gap c j))

module _ (c : List ℕ) (j : ℕ) where
  -- the position before is reached by its distance, and the other way round
  back-gap : 1 ≤ j → j ≤ length c → 1 ≤ back c j → gap c (back c j) ≡ j - back c j
  back-gap a b h =
      let B = back-before c j a in
      let low = B.low in
      gap_is c (back c j) (j - back c j) h (omega arith) (ap (at c) (omega arith) ∙ sym (B.same h)) (λ k l m r e. B.free k l (omega (arith, r (omega arith))) (e ∙ B.same h))

  gap_back : (i : ℕ) → j ≤ length c → 1 ≤ gap c j → j + gap c j ≡ i → back c i ≡ j
  gap_back i b h e =
      let G = gap_nearest c j b in
      let same : at c i ≡ at c j = ap (at c) (sym e) ∙ G.same in
      before_back c i j (omega arith) (record { low = omega arith; same = λ l. sym same; free = λ k l m q. G.free k l (omega arith) (q ∙ same) })

-- ---- i gets the code x

module _ {c : List ℕ} {i x t : ℕ} (P : Place c i x t) where
  abbrev c' : List ℕ
  c' = put c i x

  long : length c' ≡ length c
  long = put-length c i x

  here : at c' i ≡ x
  here = put_same c i x P.low P.high

  there : (j : ℕ) → 1 ≤ j → j ≢ i → at c' j ≡ at c j
  there j h ne = put_other c i x j P.low h ne

  old : (j k : ℕ) → 1 ≤ j → j ≢ i → 1 ≤ k → k ≢ i → at c' k ≡ at c' j → at c k ≡ at c j
  old j k a nj b nk e = sym (there k b nk) ∙ e ∙ there j a nj

  -- i has another code before
  other : at c i ≢ x
  other e = omega (arith, P.later i P.low P.high e)

  N : Nearest c i (gap c i)
  N = gap_nearest c i P.high

  B : Before c i (back c i)
  B = back-before c i P.low

  -- ---- the distances

  gap_here : gap c' i ≡ 0
  gap_here =
      gap_is c' i 0 P.low (omega (arith, long, P.high)) (ap (at c') (omega arith))
      (λ j l m r e. omega (arith, P.later j (omega arith) (omega (arith, long)) (sym (there j (omega arith) (omega arith)) ∙ e ∙ here)))

  pub gap-behind : 1 ≤ t → gap c' t ≡ i - t
  gap-behind h =
      let b = P.behind in
      let own : at c' t ≡ x = there t h (omega arith) ∙ P.same h in
      gap_is c' t (i - t) h (omega (arith, long, P.high)) (ap (at c') (omega arith) ∙ here ∙ sym own)
      (λ j l m r e. let q = r (omega arith) in P.free j l (omega arith) (sym (there j (omega arith) (omega arith)) ∙ e ∙ own))

  -- where i was not the next, the distance stays: if j has the code x, it goes on to t before i
  gap-rest : (j : ℕ) → 1 ≤ j → j ≤ length c → j ≢ i → j ≢ t → j ≢ back c i → gap c' j ≡ gap c j
  gap-rest j a b ni nt np =
      gap_is c' j (gap c j) a (omega (arith, long, G.high)) (next (lt_or_ge 0 (gap c j)))
      (λ k l m r e.
      by_cases (ℕ_discrete k i)
      (λ q.
      let own : at c j ≡ x = sym (there j a ni) ∙ sym e ∙ ap (at c') q ∙ here in
      let on : j < t = ⊎_elim (λ h. absurd (P.free j h (omega arith) own)) (λ h. omega arith) (lt_or_ge t j) in
      gap-free c j b t on (omega (arith, P.behind, P.high)) (λ h. omega (arith, P.behind, r h)) (P.same (omega arith) ∙ sym own))
      (λ ne. gap-free c j b k l (omega (arith, long)) r (old j k a ni (omega arith) ne e)))
    where
      G : Nearest c j (gap c j)
      G = gap_nearest c j b

      next : (0 < gap c j) ⊎ (gap c j ≤ 0) → at c' (j + gap c j) ≡ at c' j
      next (inl h) = there (j + gap c j) (omega arith) (λ e. np (sym (gap_back c j i b h e))) ∙ G.same ∙ sym (there j a ni)
      next (inr z) = ap (at c') (omega arith)

  -- what was before i reaches over it
  pub gap_over : 1 ≤ back c i → gap c' (back c i) ≡ joined (gap c (back c i)) (gap c i)
  gap_over h = ⊎_elim on last (lt_or_ge 0 (gap c i))
    where
      p : ℕ
      p = back c i

      low : p < i
      low = B.low

      own : at c' p ≡ at c i
      own = there p h (omega (arith, low)) ∙ B.same h

      e : gap c p ≡ i - p
      e = back-gap c i P.low P.high h

      free : (k : ℕ) → p < k → k ≤ length c → (1 ≤ gap c i → k < i + gap c i) → at c' k ≢ at c' p
      free k l m r q =
          by_cases (ℕ_discrete k i)
          (λ z. other (sym own ∙ sym q ∙ ap (at c') z ∙ here))
          (λ ne.
          let f : at c k ≡ at c i = sym (there k (omega arith) ne) ∙ q ∙ own in
          ⊎_elim (λ o. gap-free c i P.high k o m r f) (λ o. B.free k l (omega arith) f) (lt_or_ge i k))

      on : 0 < gap c i → gap c' p ≡ joined (gap c p) (gap c i)
      on o =
          gap_is c' p (gap c p + gap c i) h (omega (arith, long, low, e, N.high))
          (ap (at c') (omega (arith, low, e)) ∙ there (i + gap c i) (omega arith) (omega arith) ∙ N.same ∙ sym own)
          (λ k l m r. free k l (omega (arith, long)) (λ z. omega (arith, low, e, r (omega arith))))
          ∙ sym (joined-some (gap c p) (gap c i) o)

      last : gap c i ≤ 0 → gap c' p ≡ joined (gap c p) (gap c i)
      last o =
          gap_is c' p 0 h (omega (arith, long, low, P.high)) (ap (at c') (omega arith)) (λ k l m r. free k l (omega (arith, long)) (λ z. omega arith))
          ∙ sym (joined-none (gap c p) (gap c i) (omega arith))

  -- ---- the positions before

  back_here : back c' i ≡ t
  back_here =
      before_back c' i t P.low
      (record {
        low = P.behind;
        same = λ h. there t h (omega (arith, P.behind)) ∙ P.same h ∙ sym here;
        free = λ k l m e. P.free k l m (sym (there k (omega arith) (omega arith)) ∙ e ∙ here);
      })

  back_over : 1 ≤ gap c i → back c' (i + gap c i) ≡ back c i
  back_over h =
      let q : ℕ = i + gap c i in
      let own : at c' q ≡ at c i = there q (omega arith) (omega arith) ∙ N.same in
      before_back c' q (back c i) (omega arith)
      (record {
        low = omega (arith, B.low);
        same = λ l. there (back c i) l (omega (arith, B.low)) ∙ B.same l ∙ sym own;
        free = λ k l m e.
            by_cases (ℕ_discrete k i)
            (λ r. other (sym (sym here ∙ ap (at c') (sym r) ∙ e ∙ own)))
            (λ ne.
            let f : at c k ≡ at c i = sym (there k (omega arith) ne) ∙ e ∙ own in
            ⊎_elim (λ r. N.free k r m f) (λ r. B.free k l (omega arith) f) (lt_or_ge i k));
      })

  -- i is not before another than its next
  back-rest : (j : ℕ) → 1 ≤ j → j ≤ length c → j ≢ i → (1 ≤ gap c i → j ≢ i + gap c i) → back c' j ≡ back c j
  back-rest j a b ni nn =
      let G = back-before c j a in
      before_back c' j (back c j) a
      (record {
        low = G.low;
        same = λ l.
            there (back c j) l (λ e. let d = ap (gap c) (sym e) ∙ back-gap c j a b l in nn (omega (arith, d, e, G.low)) (omega (arith, d, e, G.low)))
            ∙ G.same l ∙ sym (there j a ni);
        free = λ k l m e.
            by_cases (ℕ_discrete k i)
            (λ r. omega (arith, P.later j a b (sym (there j a ni) ∙ sym e ∙ ap (at c') r ∙ here)))
            (λ ne. G.free k l m (old j k a ni (omega arith) ne e));
      })

  -- ---- the arrays

  module _ {dist prev : List ℕ} (L : Linked c dist prev) (few : length c ≤ 1000) where
    d_here : at dist i ≡ gap c i
    d_here = L.next i P.low P.high

    p_here : at prev i ≡ back c i
    p_here = L.last i P.low P.high

    pub link-back : at prev i < i
    link-back = omega (arith, p_here, B.low)

    pub link-ahead : i + at dist i ≤ length c
    link-ahead = omega (arith, d_here, N.high)

    -- the distance of the position before leads to i
    pub link-reach : 1 ≤ at prev i → at prev i + at dist (at prev i) ≡ i
    link-reach h =
        let e : at dist (at prev i) ≡ gap c (back c i) = ap (at dist) p_here ∙ L.next (back c i) (omega (arith, p_here)) (omega (arith, B.low, P.high)) in
        omega (arith, e, p_here, back-gap c i P.low P.high (omega (arith, p_here)), B.low)

    -- no place beyond the table is written
    pub prev_on : (j : ℕ) → length c < j → at (prev_after dist prev i t) j ≡ at prev j
    unfolding prev_after
    prev_on j l =
        put_other (put_ahead prev i (at dist i) (at prev i)) i t j P.low (omega arith) (omega (arith, P.high))
        ∙ ahead_other prev i (at dist i) (at prev i) j (omega arith) (λ h. omega (arith, link-ahead))

    pub dist_on : (j : ℕ) → length c < j → at (dist_after dist prev i t) j ≡ at dist j
    unfolding dist_after bridged
    dist_on j l =
        some_other (put (bridged dist prev i) i 0) t (i - t) j (omega arith) (omega (arith, P.behind, P.high))
        ∙ put_other (bridged dist prev i) i 0 j P.low (omega arith) (omega (arith, P.high))
        ∙ some_other dist (at prev i) (joined (at dist (at prev i)) (at dist i)) j (omega arith) (omega (arith, link-back, P.high))

    module _ (ld : length dist ≡ 1000) (lp : length prev ≡ 1000) where
      over : List ℕ
      over = put_some dist (back c i) (joined (at dist (back c i)) (gap c i))

      over_long : length over ≡ 1000
      unfolding over
      over_long = some-length dist (back c i) (joined (at dist (back c i)) (gap c i)) ∙ ld

      over_is : (j : ℕ) → 1 ≤ j → j ≤ length c → j ≢ t → j ≢ i → at over j ≡ gap c' j
      unfolding over
      over_is j a b nt ni =
          by_cases (ℕ_discrete j (back c i))
          (λ e.
          let h : 1 ≤ back c i = omega arith in
          ap (at over) e
          ∙ some_same dist (back c i) (joined (at dist (back c i)) (gap c i)) h (omega (arith, ld))
          ∙ ap (λ (v : ℕ). joined v (gap c i)) (L.next (back c i) h (omega arith))
          ∙ sym (ap (gap c') e ∙ gap_over h))
          (λ ne. some_other dist (back c i) (joined (at dist (back c i)) (gap c i)) j a ne ∙ L.next j a b ∙ sym (gap-rest j a b ni nt ne))

      dist_is : (j : ℕ) → 1 ≤ j → j ≤ length c → at (dist_after dist prev i t) j ≡ gap c' j
      unfolding dist_after bridged over
      dist_is j a b =
          rw (p_here, d_here)
          (by_cases (ℕ_discrete j t)
          (λ e. ap (at (put_some (put over i 0) t (i - t))) e ∙ some_same (put over i 0) t (i - t) (omega arith) (omega (arith, put-length over i 0, over_long)) ∙ sym (ap (gap c') e ∙ gap-behind (omega arith)))
          (λ nt. some_other (put over i 0) t (i - t) j a nt
          ∙ by_cases (ℕ_discrete j i)
          (λ e. ap (at (put over i 0)) e ∙ put_same over i 0 P.low (omega (arith, over_long, few, P.high)) ∙ sym (ap (gap c') e ∙ gap_here))
          (λ ni. put_other over i 0 j P.low a ni ∙ over_is j a b nt ni)))

      abbrev ahead : List ℕ
      ahead = put_ahead prev i (gap c i) (back c i)

      prev_is : (j : ℕ) → 1 ≤ j → j ≤ length c → at (prev_after dist prev i t) j ≡ back c' j
      unfolding prev_after
      prev_is j a b =
          rw (d_here, p_here)
          (by_cases (ℕ_discrete j i)
          (λ e. ap (at (put ahead i t)) e ∙ put_same ahead i t P.low (omega (arith, ahead-length prev i (gap c i) (back c i), lp, few, P.high)) ∙ sym (ap (back c') e ∙ back_here))
          (λ ni. put_other ahead i t j P.low a ni
          ∙ by_cases (ℕ_discrete j (i + gap c i))
          (λ e.
          let h : 1 ≤ gap c i = ⊎_elim (λ l. l) (λ z. absurd (ni (omega arith))) (lt_or_ge 0 (gap c i)) in
          ap (at ahead) e ∙ ahead-same prev i (gap c i) (back c i) h (omega (arith, lp, few)) ∙ sym (ap (back c') e ∙ back_over h))
          (λ ne. ahead_other prev i (gap c i) (back c i) j a (λ h. ne) ∙ L.last j a b ∙ sym (back-rest j a b ni (λ h. ne)))))

      -- the links after one move
      pub linked_move : Linked c' (dist_after dist prev i t) (prev_after dist prev i t)
      linked_move = record { next = λ j a b. dist_is j a (rw long at b); last = λ j a b. prev_is j a (rw long at b) }
