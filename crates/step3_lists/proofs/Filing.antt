-- The lists when a place is put first on one of them, and when the first place of one leaves it. Assumes nothing.
use Prim.Native.Nat.{ℕ, ◌+◌, ◌-◌, ◌≤◌}
use mathlib.Core.Path.{◌≡◌, refl, sym, ap, ◌∙◌}
use mathlib.Core.Bool.{cond}
use mathlib.Core.Logic.{◌⊎◌, inl, inr, ⊎_elim, by_cases, ◌≢◌}
use mathlib.Core.List.Memᴰ
use mathlib.Core.List.{List, [], ◌∷◌, Memᴰ}
use native.Mathlib.Omega.{arith}
use native.Mathlib.Decide.{ℕ_discrete}
use lib.ListN.{length, get_or-eq_default}
use lib.Dec.{eqb}
use borrow.Author.Tests.{eq-eqb, ne_eqb}
use Rattle.words.specs.Reads.{at}
use Rattle.words.proofs.Tests.{lt_or_ge}
use Rattle.slots.specs.Slots.{put}
use Rattle.slots.proofs.Laws.{put-length, put_same, put_other}
use Rattle.step3_lists.specs.Lists.{Place, Chain, Lists}
use Rattle.step3_lists.specs.Walk.{walk}
use Rattle.step3_lists.proofs.Chains.{chain_low, chain-none, chain_place, chain-put, chain_once, chain-walk}

-- no place is on a list
pub lists_none : (own head after : List ℕ) → length own ≡ 1000 → length head ≡ 1000 → length after ≡ 1000
    → ((i : ℕ) → Place i → at own i ≡ 0) → ((i : ℕ) → Place i → at head i ≡ 0) → ((i : ℕ) → Place i → at after i ≡ 0) → Lists own head after
unfolding Chain
lists_none own head after lo lh la zo zh za =
    record {
      lo = lo;
      lh = lh;
      la = la;
      on = λ d. [];
      chain = zh;
      listed = λ d i p q e. absurd (omega (arith, e, zo i q, p.0));
      only = λ d i p m. absurd (Memᴰ.not-nil m);
      within = λ i p. omega (arith, zo i p);
      free = λ i p e. za i p;
    }

module _ {own head after : List ℕ} (L : Lists own head after) where
  pub lists_heads : (d : ℕ) → Place d → at head d ≤ 1000
  lists_heads d p = chain_low after (L.on d) (at head d) (L.chain d p)

  -- a walk from the head of a list comes to the places that are on it
  pub lists_walk : (d : ℕ) → Place d → walk after 1000 (at head d) ≡ L.on d
  lists_walk d p = chain-walk after (L.on d) (at head d) (L.chain d p)

  pub lists_place : (d i : ℕ) → 1 ≤ d → Memᴰ i (walk after 1000 (at head d)) → Place i
  unfolding at Chain
  lists_place d i l m =
      ⊎_elim
      (λ h.
      let none : at head d ≡ 0 = get_or-eq_default head 0 (omega (arith, L.lh)) in
      absurd (Memᴰ.not-nil (rw (none, chain-walk after [] 0 refl) at m)))
      (λ h. (chain_place after (L.on d) (at head d) (L.chain d (l, h)) i (rw (lists_walk d (l, h)) at m)).0)
      (lt_or_ge 1000 d)

  -- a place without a link is on no list
  pub lists_free : (i : ℕ) → Place i → at after i ≡ 0 → at own i ≡ 0
  lists_free i p e =
      ⊎_elim
      (λ l.
      let d = at own i in
      let pd : Place d = (l, L.within i p) in
      absurd (omega (arith, e, (chain_place after (L.on d) (at head d) (L.chain d pd) i (L.listed d i pd p refl)).1)))
      (λ l. omega arith)
      (lt_or_ge 0 (at own i))

  -- a list without a head has no place
  pub lists_empty : (w : ℕ) → Place w → at head w ≡ 0 → (i : ℕ) → Place i → at own i ≢ w
  lists_empty w p z i q e =
      Memᴰ.not-nil (rw (chain-none after (L.on w) (at head w) (L.chain w p) z) at (L.listed w i p q e))

  -- ---- the list of d changes, as i comes on it or leaves it: it has the places m, and begins at h

  module _ (d i : ℕ) (pd : Place d) (pi : Place i) (v h k : ℕ) (m : List ℕ) (elsewhere : (e : ℕ) → Place e → e ≢ d → at own i ≢ e) (new : (v ≡ d) ⊎ ((v ≡ 0) × (k ≡ 0)))
      (chain : Chain (put after i k) h m) (has : (j : ℕ) → Place j → at (put own i v) j ≡ d → Memᴰ j m) (only : (j : ℕ) → Memᴰ j m → at (put own i v) j ≡ d) where
    changed : ℕ → List ℕ
    changed e = cond (eqb e d) m (L.on e)

    changed_here : (e : ℕ) → e ≡ d → changed e ≡ m
    unfolding changed
    changed_here e q = rw (eq-eqb e d q)

    changed_there : (e : ℕ) → e ≢ d → changed e ≡ L.on e
    unfolding changed
    changed_there e q = rw (ne_eqb e d q)

    own_here : (j : ℕ) → j ≡ i → at (put own i v) j ≡ v
    own_here j e = ap (at (put own i v)) e ∙ put_same own i v pi.0 (omega (arith, pi.1, L.lo))

    own_there : (j : ℕ) → Place j → j ≢ i → at (put own i v) j ≡ at own j
    own_there j p ne = put_other own i v j pi.0 p.0 ne

    chains : (e : ℕ) → Place e → Chain (put after i k) (at (put head d h) e) (changed e)
    chains e p =
        by_cases (ℕ_discrete e d)
        (λ q. rw (changed_here e q, q, put_same head d h pd.0 (omega (arith, pd.1, L.lh))) chain)
        (λ q.
        rw (changed_there e q, put_other head d h e pd.0 p.0 q)
        (chain-put after (L.on e) (at head e) i k pi.0 (λ x. elsewhere e p q (L.only e i p x)) (L.chain e p)))

    all_listed : (e j : ℕ) → Place e → Place j → at (put own i v) j ≡ e → Memᴰ j (changed e)
    all_listed e j p q s =
        by_cases (ℕ_discrete e d)
        (λ y. rw (changed_here e y) (has j q (s ∙ y)))
        (λ y.
        rw (changed_there e y)
        (by_cases (ℕ_discrete j i)
        (λ z. absurd (⊎_elim (λ x. y (sym s ∙ own_here j z ∙ x)) (λ x. omega (arith, s, own_here j z, x.0, p.0)) new))
        (λ z. L.listed e j p q (sym (own_there j q z) ∙ s))))

    listed-only : (e j : ℕ) → Place e → Memᴰ j (changed e) → at (put own i v) j ≡ e
    listed-only e j p x =
        by_cases (ℕ_discrete e d)
        (λ y. only j (rw (changed_here e y) at x) ∙ sym y)
        (λ y.
        let t = rw (changed_there e y) at x in
        let q = (chain_place after (L.on e) (at head e) (L.chain e p) j t).0 in
        own_there j q (λ z. elsewhere e p y (ap (at own) (sym z) ∙ L.only e j p t)) ∙ L.only e j p t)

    lists_one : Lists (put own i v) (put head d h) (put after i k)
    lists_one =
        record {
          lo = put-length own i v ∙ L.lo;
          lh = put-length head d h ∙ L.lh;
          la = put-length after i k ∙ L.la;
          on = changed;
          chain = chains;
          listed = all_listed;
          only = listed-only;
          within = λ j p.
              by_cases (ℕ_discrete j i)
              (λ z. ⊎_elim (λ x. omega (arith, own_here j z, x, pd.1)) (λ x. omega (arith, own_here j z, x.0)) new)
              (λ z. omega (arith, own_there j p z, L.within j p));
          free = λ j p e.
              by_cases (ℕ_discrete j i)
              (λ z.
              ap (at (put after i k)) z ∙ put_same after i k pi.0 (omega (arith, pi.1, L.la))
              ∙ ⊎_elim (λ x. absurd (omega (arith, e, own_here j z, x, pd.0))) (λ x. x.1) new)
              (λ z. put_other after i k j pi.0 p.0 z ∙ L.free j p (sym (own_there j p z) ∙ e));
        }

  -- ---- i, which is on no list, comes first on the list of d

  module _ (i d : ℕ) (pi : Place i) (pd : Place d) (none : at own i ≡ 0) where
    -- i is on none of the old lists
    absent : (e : ℕ) → Place e → at own i ≢ e
    absent e p q = omega (arith, none, q, p.0)

    abbrev link : ℕ
    link = at head d + 1

    link_here : at (put after i link) i ≡ link
    link_here = put_same after i link pi.0 (omega (arith, pi.1, L.la))

    back : link - 1 ≡ at head d
    back = omega arith

    longer : Chain (put after i link) i (i ∷ L.on d)
    unfolding Chain
    longer =
        (refl, pi, omega (arith, link_here), rw (link_here, back) (chain-put after (L.on d) (at head d) i link pi.0 (λ x. absent d pd (L.only d i pd x)) (L.chain d pd)))

    pub lists_file : Lists (put own i d) (put head d i) (put after i (at head d + 1))
    lists_file =
        lists_one d i pd pi d i link (i ∷ L.on d) (λ e p ne. absent e p) (inl refl) longer
        (λ j q s. by_cases (ℕ_discrete j i) (λ z. Memᴰ.head z) (λ z. Memᴰ.tail (L.listed d j pd q (sym (put_other own i d j pi.0 q.0 z) ∙ s))))
        (λ j x.
        ⊎_elim
        (λ z. ap (at (put own i d)) z ∙ put_same own i d pi.0 (omega (arith, pi.1, L.lo)))
        (λ t.
        let s = L.only d j pd t in
        put_other own i d j pi.0 (chain_place after (L.on d) (at head d) (L.chain d pd) j t).0.0 (λ z. absent d pd (ap (at own) (sym z) ∙ s)) ∙ s)
        (Memᴰ.cases_cons x))

  -- ---- h, the first on the list of w, leaves it

  -- a list that begins with h
  record Begins (w h : ℕ) : Type 0 where
    pub rest : List ℕ
    pub is : L.on w ≡ h ∷ rest
    pub place : Place h
    pub on : Chain after (at after h - 1) rest
    pub once : Memᴰ h rest → ⊥

  begins : (w h : ℕ) → Place w → at head w ≡ h → 1 ≤ h → Begins w h
  unfolding Chain
  begins w h p e a = go (L.on w) refl (rw e at (L.chain w p))
    where
      go : (l : List ℕ) → L.on w ≡ l → Chain after h l → Begins w h
      go [] q c = absurd (omega (arith, c))
      go (j ∷ l) q c =
          let s : j ≡ h = sym c.0 in
          record {
            rest = l;
            is = q ∙ ap (λ (x : ℕ). x ∷ l) s;
            place = rw s at c.1;
            on = rw s at c.3;
            once = λ m. chain_once after l h j c (rw s m);
          }

  module _ (w h : ℕ) (pw : Place w) (first : at head w ≡ h) (some : 1 ≤ h) where
    B : Begins w h
    B = begins w h pw first some

    pub first_place : Place h
    first_place = B.place

    pub first-own : at own h ≡ w
    first-own = L.only w h pw (rw B.is (Memᴰ.head refl))

    pub lists_take : Lists (put own h 0) (put head w (at after h - 1)) (put after h 0)
    lists_take =
        let low = B.place.0 in
        lists_one w h pw B.place 0 (at after h - 1) 0 B.rest (λ e p ne q. ne (sym q ∙ first-own)) (inr (refl, refl))
        (chain-put after B.rest (at after h - 1) h 0 low B.once B.on)
        (λ j q s.
        let ne : j ≢ h = λ z. omega (arith, s, ap (at (put own h 0)) z, put_same own h 0 low (omega (arith, B.place.1, L.lo)), pw.0) in
        ⊎_elim (λ x. absurd (ne x)) (λ t. t) (Memᴰ.cases_cons (rw B.is at (L.listed w j pw q (sym (put_other own h 0 j low q.0 ne) ∙ s)))))
        (λ j t.
        put_other own h 0 j low (chain_place after B.rest (at after h - 1) B.on j t).0.0 (λ z. B.once (rw z at t))
        ∙ L.only w j pw (rw B.is (Memᴰ.tail t)))
