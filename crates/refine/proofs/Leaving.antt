-- A queue without the positions that are alone in their groups: which place each position gets there, and that it moves the groups alike.
-- Assumes nothing.
use Prim.Native.Nat.{ℕ, zero, suc, ◌+◌, ◌-◌, ◌≤◌, ◌<◌}
use mathlib.Core.Path.{◌≡◌, sym, ap, ◌∙◌}
use mathlib.Core.Logic.{⊎_elim}
use mathlib.Core.Bool.{true, false, ◌&&◌}
use mathlib.Core.List.{List, [], ◌∷◌, ◌++◌, append_assoc}
use native.Mathlib.Omega.{arith}
use lib.ListN.{length, length-append}
use lib.Seq.{get_or_at}
use lib.Dec.{eqb, ltb}
use borrow.Author.Tests.{eqb-true, eq-eqb, lt-ltb}
use Rattle.words.specs.Range.{count, gather, leader}
use Rattle.words.specs.Reads.{at}
use Rattle.words.specs.Groups.{size}
use Rattle.words.proofs.Tests.{either, lt_or_ge, and_left, and_right, and_both, same_test, bits_apart, eqb_self}
use Rattle.words.proofs.Ranges.{append-nil, gather_more, gather_parts, column-same, leader_agrees}
use Rattle.words.proofs.Sums.{count_apart, count_one}
use Rattle.refine.specs.Refine.{has, Lined, leaves, together, next_of}
use Rattle.refine.specs.Leaving.{paired, leaver, leaving}
use Rattle.refine.proofs.Queues.{has_is, is_has}

-- place s of a queue without those alone holds the position of place p + 1 of the first q places of Q
pub record From (t Q : List ℕ) (q s : ℕ) : Type 0 where
  pub p : ℕ
  pub early : p < q
  pub left : paired t (at Q (suc p)) ≡ true
  pub place : s ≡ suc (length (gather (leaver t Q) p 1))

module _ (t Q : List ℕ) where
  -- one place more
  added : (q : ℕ) → gather (leaver t Q) (suc q) 1 ≡ gather (leaver t Q) q 1 ++ leaver t Q (suc q)
  added q = let z : 1 + q ≡ suc q = omega arith in gather_more (leaver t Q) q 1 ∙ ap (λ (k : ℕ). gather (leaver t Q) q 1 ++ leaver t Q k) z

  taken : (q : ℕ) → paired t (at Q (suc q)) ≡ true → gather (leaver t Q) (suc q) 1 ≡ gather (leaver t Q) q 1 ++ at Q (suc q) ∷ []
  unfolding leaver
  taken q e = added q ∙ rw e

  pub leaving_grow : (q : ℕ) → paired t (at Q (suc q)) ≡ true → length (gather (leaver t Q) (suc q) 1) ≡ suc (length (gather (leaver t Q) q 1))
  leaving_grow q e = rw (taken q e) (length-append (gather (leaver t Q) q 1) (at Q (suc q) ∷ []) ∙ omega arith)

  pub leaving_stay : (q : ℕ) → paired t (at Q (suc q)) ≡ false → length (gather (leaver t Q) (suc q) 1) ≡ length (gather (leaver t Q) q 1)
  unfolding leaver
  leaving_stay q e = rw (added q, e) (ap length (append-nil (gather (leaver t Q) q 1)))

  pub leaving_few : (q : ℕ) → length (gather (leaver t Q) q 1) ≤ q
  unfolding gather
  leaving_few zero = omega arith
  leaving_few (suc q) =
      ⊎_elim
      (λ e. omega (arith, leaving_grow q e, leaving_few q))
      (λ e. omega (arith, leaving_stay q e, leaving_few q))
      (either (paired t (at Q (suc q))))

  -- more places of Q, and what they add behind
  module _ (q r : ℕ) (l : q ≤ r) where
    more : gather (leaver t Q) r 1 ≡ gather (leaver t Q) q 1 ++ gather (leaver t Q) (r - q) (1 + q)
    more = ap (λ (v : ℕ). gather (leaver t Q) v 1) (omega arith) ∙ gather_parts (leaver t Q) q (r - q) 1

    leaving_rises : length (gather (leaver t Q) q 1) ≤ length (gather (leaver t Q) r 1)
    leaving_rises = rw more (omega (arith, length-append (gather (leaver t Q) q 1) (gather (leaver t Q) (r - q) (1 + q))))

  -- the place of a position that leaves
  module _ (q : ℕ) (e : paired t (at Q (suc q)) ≡ true) where
    pub leaving-inside : q < length Q → suc (length (gather (leaver t Q) q 1)) ≤ length (leaving t Q)
    unfolding leaving
    leaving-inside l = omega (arith, leaving_grow q e, leaving_rises (suc q) (length Q) l)

    pub leaving-at : q < length Q → at (leaving t Q) (suc (length (gather (leaver t Q) q 1))) ≡ at Q (suc q)
    unfolding leaving at
    leaving-at l =
        rw (more (suc q) (length Q) l, taken q e, append_assoc)
        (get_or_at (gather (leaver t Q) q 1) (at Q (suc q)) (gather (leaver t Q) (length Q - suc q) (1 + suc q)) 0 (suc (length (gather (leaver t Q) q 1)) - 1) (omega arith))

  -- the first places come from the first places of Q
  pub leaving_from : (q s : ℕ) → 1 ≤ s → s ≤ length (gather (leaver t Q) q 1) → From t Q q s
  leaving_from zero s a b = absurd (omega (arith, leaving_few 0))
  leaving_from (suc q) s a b =
      ⊎_elim
      (λ (l : length (gather (leaver t Q) q 1) < s). ⊎_elim
      (λ e. record { p = q; early = omega arith; left = e; place = omega (arith, leaving_grow q e) })
      (λ e. absurd (omega (arith, leaving_stay q e)))
      (either (paired t (at Q (suc q)))))
      (λ l. let w = leaving_from q s a l in record { p = w.p; early = omega (arith, w.early); left = w.left; place = w.place })
      (lt_or_ge (length (gather (leaver t Q) q 1)) s)

  -- the place of Q that a place of the rest comes from
  from_all : (s : ℕ) → 1 ≤ s → s ≤ length (leaving t Q) → From t Q (length Q) s
  unfolding leaving
  from_all s a b = leaving_from (length Q) s a b

  pub from_at : (q s : ℕ) → q ≤ length Q → (w : From t Q q s) → at (leaving t Q) s ≡ at Q (suc w.p)
  from_at q s l w = rw w.place (leaving-at w.p w.left (omega (arith, w.early)))

  -- later places come from later places
  from_rises : (q s r v : ℕ) → (w : From t Q q s) → (x : From t Q r v) → s < v → w.p < x.p
  from_rises q s r v w x l = ⊎_elim (λ h. h) (λ h. absurd (omega (arith, leaving_rises x.p w.p h, w.place, x.place))) (lt_or_ge w.p x.p)

  pub leaving-lined : Lined t Q → Lined t (leaving t Q)
  leaving-lined L =
      record {
        inside = λ s a b. let w = from_all s a b in rw (from_at (length Q) s (omega arith) w) (L.inside (suc w.p) (omega arith) (omega (arith, w.early)));
        rises = λ s v a l b.
            let w = from_all s a (omega arith) in
            let x = from_all v (omega arith) b in
            rw (from_at (length Q) s (omega arith) w, from_at (length Q) v (omega arith) x)
            (L.rises (suc w.p) (suc x.p) (omega arith) (omega (arith, from_rises (length Q) s (length Q) v w x l)) (omega (arith, x.early)));
      }

  -- who is in it
  pub leaving-has : (i : ℕ) → has (leaving t Q) i ≡ has Q i && paired t i
  leaving-has i =
      same_test (has (leaving t Q) i) (has Q i && paired t i)
      (λ e.
      let r = has_is (leaving t Q) i e in
      let w = from_all r.0 r.1 r.2 in
      let z : at Q (suc w.p) ≡ i = sym (from_at (length Q) r.0 (omega arith) w) ∙ r.3 in
      and_both (has Q i) (paired t i) (rw z at (is_has Q (suc w.p) (omega arith) (omega (arith, w.early)))) (rw z at w.left))
      (λ e.
      let r = has_is Q i (and_left (has Q i) (paired t i) e) in
      let z : at Q (suc (r.0 - 1)) ≡ i = ap (at Q) (omega (arith, r.1)) ∙ r.3 in
      let f : paired t (at Q (suc (r.0 - 1))) ≡ true = rw z (and_right (has Q i) (paired t i) e) in
      let l : r.0 - 1 < length Q = omega (arith, r.1, r.2) in
      rw (leaving-at (r.0 - 1) f l ∙ z) at (is_has (leaving t Q) (suc (length (gather (leaver t Q) (r.0 - 1) 1))) (omega arith) (leaving-inside (r.0 - 1) f l)))

  -- two positions of one group are not alone
  pub shared_paired : (i j : ℕ) → 1 ≤ j → j < i → i ≤ length t → at t j ≡ at t i → paired t i ≡ true
  unfolding paired size
  shared_paired i j a l b e =
      let one = count_one (λ k. eqb k i) (length t) 1 i (omega arith) (omega arith) (eqb_self i) in
      let two = count_one (λ k. eqb k j) (length t) 1 j a (omega arith) (eqb_self j) in
      let both =
      count_apart (λ k. eqb k i) (λ k. eqb k j) (λ k. eqb (at t k) (at t i)) (length t) 1
      (λ k c d. bits_apart (eqb k i) (eqb k j) (eqb (at t k) (at t i))
      (λ p q. omega (arith, eqb-true k i p, eqb-true k j q))
      (λ p. eq-eqb (at t k) (at t i) (ap (at t) (eqb-true k i p)))
      (λ p. eq-eqb (at t k) (at t i) (ap (at t) (eqb-true k j p) ∙ e))) in
      lt-ltb 1 (count (λ k. eqb (at t k) (at t i)) (length t) 1) (omega (arith, one, two, both))

  -- one that is not alone leaves alike
  paired-leaves : (i : ℕ) → paired t i ≡ true → leaves t (leaving t Q) i ≡ leaves t Q i
  unfolding leaves
  paired-leaves i e = rw (leaving-has i, e) (⊎_elim (λ h. rw h) (λ h. rw h) (either (has Q i)))

  pub leaving-next : next_of t (leaving t Q) ≡ next_of t Q
  unfolding next_of together paired
  leaving-next =
      column-same (leader (together t (leaving t Q))) (leader (together t Q)) (length t)
      (λ i a b. leader_agrees (together t (leaving t Q)) (together t Q) i
      (λ j c l. ⊎_elim
      (λ p.
      let e : at t j ≡ at t i = eqb-true (at t j) (at t i) p in
      let f : paired t i ≡ true = shared_paired i j c l b e in
      rw (paired-leaves i f, paired-leaves j (alike i j e f)))
      (λ p. rw p)
      (either (eqb (at t j) (at t i)))))
    where
      alike : (i j : ℕ) → at t j ≡ at t i → paired t i ≡ true → paired t j ≡ true
      alike i j e f = ap (λ (k : ℕ). ltb 1 (size t k)) e ∙ f
