-- The list of w while it is passed: the places that are left on it begin at h, and those of distance w that have left it are marked. Assumes nothing.
use Prim.Native.Nat.{ℕ, suc, ◌+◌, ◌-◌, ◌≤◌, ◌<◌}
use mathlib.Core.Path.{◌≡◌, refl, sym, ap, ◌∙◌}
use mathlib.Core.Bool.{cond}
use mathlib.Core.Logic.{◌⊎◌, inl, inr, ⊎_elim, by_cases, ◌≢◌}
use mathlib.Core.List.{List, [], ◌∷◌}
use native.Mathlib.Omega.{arith}
use native.Mathlib.Decide.{ℕ_discrete}
use lib.ListN.{length}
use lib.Dec.{eqb}
use borrow.Author.Tests.{eq-eqb, ne_eqb}
use Rattle.words.specs.Reads.{at}
use Rattle.words.proofs.Tests.{lt_or_ge}
use Rattle.slots.specs.Slots.{put}
use Rattle.slots.proofs.Laws.{put_same, put_other, put-again, put_held, put_swap}
use Rattle.step1_rows.specs.Rows.{row, put_at, Long, among, Only, DIST, HEAD, AFTER}
use Rattle.step1_rows.proofs.Laws.{row_same, row_other, long-put, only-put, only_trans}
use Rattle.step2_bits.specs.Sets.{Empty, Where}
use Rattle.step3_lists.specs.Lists.{Place, Lists}
use Rattle.step3_lists.specs.Walk.{walk}
use Rattle.step3_lists.specs.Waits.{Waits, Waiting}
use Rattle.step3_lists.specs.Filed.{Heads, filed_at, released_at, Marked}
use Rattle.step3_lists.proofs.Chains.{walk_less}
use Rattle.step3_lists.proofs.Filing.{lists_heads, lists_free, lists_empty, lists_file, lists_take, first_place, first-own}
use Rattle.step3_lists.proofs.Waits.{waits_on, waits_begin, waits_end}
use Rattle.step3_lists.proofs.Changing.{filed_long, filed_head, filed_after, filed_dist, filed_only, released_on, released_off}

-- h begins what is left of the list of w, which has no head; f was marked before, g is now
pub record Passing (w h : ℕ) (f g : List ℕ) (a : List (List ℕ)) : Type 0 where
  pub long : Long a
  pub own : List ℕ
  pub lists : Lists own (put (row a HEAD) w h) (row a AFTER)
  pub empty : at (row a HEAD) w ≡ 0
  pub waits : Waits w (suc w) own (at (row a DIST)) (at (row a DIST))
  pub hit : (i : ℕ) → Place i → at (row a DIST) i ≡ w → (at own i ≡ w) ⊎ (at g i ≡ 1)
  pub miss : (i : ℕ) → Place i → at (row a DIST) i ≢ w → at g i ≡ at f i

-- an array that had no place has those at which it is marked
pub marked_where : (a : List ℕ) (p : ℕ) (f g : List ℕ) → Empty f → Marked a p f g → Where a p g
marked_where a p f g E M = record { hit = M.hit; miss = λ i l h n. M.miss i l h n ∙ E.none i l h }

module _ (w : ℕ) (pw : Place w) where
  -- the list has lost its head
  pub passing_start : (a : List (List ℕ)) → Long a → Waiting w a → (h : ℕ) → h ≡ at (row a HEAD) w → (f : List ℕ) → Passing w h f f (put_at a HEAD w 0)
  passing_start a L W h e f =
      record {
        long = long-put a HEAD w 0 L;
        own = W.own;
        lists = rw (same, row_other a HEAD w 0 AFTER refl) W.lists;
        empty = ap (λ (l : List ℕ). at l w) (row_same a HEAD w 0 L (omega arith)) ∙ put_same (row a HEAD) w 0 pw.0 (omega (arith, pw.1, L.each HEAD (omega arith)));
        waits = rw (row_other a HEAD w 0 DIST refl) (waits_begin W.waits);
        hit = rw (row_other a HEAD w 0 DIST refl) (λ i p d.
            let X = W.waits in
            let s = X.there i p (omega (arith, d)) in
            inl (omega (arith, d, X.above i p s, X.early i p s (omega (arith, d, pw.0)))));
        miss = λ i p d. refl;
      }
    where
      same : put (row (put_at a HEAD w 0) HEAD) w h ≡ row a HEAD
      same = ap (λ (l : List ℕ). put l w h) (row_same a HEAD w 0 L (omega arith)) ∙ put-again (row a HEAD) w 0 h ∙ put_held (row a HEAD) w h (sym e)

  -- the list is empty
  module _ {f g : List ℕ} (a : List (List ℕ)) (P : Passing w 0 f g a) where
    lists : Lists P.own (row a HEAD) (row a AFTER)
    lists = rw (put_held (row a HEAD) w 0 P.empty) at P.lists

    pub passing_waits : Waiting (suc w) a
    passing_waits = record { own = P.own; lists = lists; waits = waits_end P.waits (lists_empty lists w pw P.empty) }

    pub passing-marked : Marked (row a DIST) w f g
    passing-marked =
        record {
          hit = λ i l h d. ⊎_elim (λ e. absurd (lists_empty lists w pw P.empty i (l, h) e)) (λ e. e) (P.hit i (l, h) d);
          miss = λ i l h d. P.miss i (l, h) d;
        }

  -- ---- h leaves the list

  module _ {h : ℕ} {f g : List ℕ} (a : List (List ℕ)) (some : 1 ≤ h) (P : Passing w h f g a) where
    L : Long a
    L = P.long

    first : at (put (row a HEAD) w h) w ≡ h
    first = put_same (row a HEAD) w h pw.0 (omega (arith, pw.1, L.each HEAD (omega arith)))

    pub passing_place : Place h
    passing_place = first_place P.lists w h pw first some

    ph : Place h
    ph = passing_place

    abbrev d : ℕ
    d = at (row a DIST) h

    pub passing_low : d ≤ 1000
    passing_low = P.waits.low h ph

    pub passing_heads : Heads a
    passing_heads e p =
        by_cases (ℕ_discrete e w)
        (λ q. omega (arith, ap (at (row a HEAD)) q, P.empty))
        (λ q. omega (arith, put_other (row a HEAD) w h e pw.0 p.0 q, lists_heads P.lists e p))

    -- it has a link
    pub passing-link : 1 ≤ at (row a AFTER) h
    passing-link =
        ⊎_elim
        (λ l. l)
        (λ l. absurd (omega (arith, lists_free P.lists h ph (omega arith), first-own P.lists w h pw first some, pw.0)))
        (lt_or_ge 0 (at (row a AFTER) h))

    abbrev then : ℕ
    then = at (row a AFTER) h - 1

    taken : Lists (put P.own h 0) (put (row a HEAD) w then) (put (row a AFTER) h 0)
    taken = rw (put-again (row a HEAD) w h then) at (lists_take P.lists w h pw first some)

    own_there : (v k : ℕ) → Place k → k ≢ h → at (put P.own h v) k ≡ at P.own k
    own_there v k p n = put_other P.own h v k ph.0 p.0 n

    abbrev b : List (List ℕ)
    b = put_at a AFTER h 0

    lb : Long b
    lb = long-put a AFTER h 0 L

    -- h waits on, as its distance is to come
    passing_file : w < d → Passing w then f g (filed_at b h d)
    passing_file m =
        record {
          long = filed_long b lb h d;
          own = put P.own h d;
          lists = rw (filed_head b lb h d, filed_after b lb h d, row_other a AFTER h 0 HEAD refl, row_same a AFTER h 0 L (omega arith), put_swap (row a HEAD) d h w then (omega arith) pw.0 (omega arith)) filed;
          empty =
              rw (filed_head b lb h d, row_other a AFTER h 0 HEAD refl) (put_other (row a HEAD) d h w (omega arith) pw.0 (omega arith) ∙ P.empty);
          waits = rw (dist) (waits_on (row a DIST) P.waits h d ph P.lists.lo (λ k. omega arith) (λ k. omega arith) (λ k l. omega arith));
          hit = rw (dist) (λ i p e.
              let n : i ≢ h = λ q. omega (arith, e, ap (at (row a DIST)) q) in
              ⊎_elim (λ s. inl (own_there d i p n ∙ s)) (λ s. inr s) (P.hit i p e));
          miss = rw (dist) P.miss;
        }
      where
        dist : row (filed_at b h d) DIST ≡ row a DIST
        dist = filed_dist b lb h d ∙ row_other a AFTER h 0 DIST refl

        filed : Lists (put P.own h d) (put (put (row a HEAD) w then) d h) (put (put (row a AFTER) h 0) h (at (row a HEAD) d + 1))
        filed =
            rw (put-again P.own h 0 d, put_other (row a HEAD) w then d pw.0 (omega arith) (omega arith)) at
            (lists_file taken h d ph (omega arith, passing_low) (put_same P.own h 0 ph.0 (omega (arith, ph.1, P.lists.lo))))

    -- h does not wait
    module _ (m : d ≤ w) (g' : List ℕ) where
      passing_leave : ((i : ℕ) → Place i → at (row a DIST) i ≡ w → (i ≡ h) ⊎ (at g i ≡ 1) → at g' i ≡ 1) → ((i : ℕ) → Place i → at (row a DIST) i ≢ w → at g' i ≡ at g i)
          → Passing w then f g' b
      passing_leave hit miss =
          record {
            long = lb;
            own = put P.own h 0;
            lists = rw (row_other a AFTER h 0 HEAD refl, row_same a AFTER h 0 L (omega arith)) taken;
            empty = rw (row_other a AFTER h 0 HEAD refl) P.empty;
            waits = rw (dist) (waits_on (row a DIST) P.waits h 0 ph P.lists.lo (λ k. absurd (omega arith)) (λ k. absurd (omega arith)) (λ k l. omega arith));
            hit = rw (dist) (λ i p e.
                by_cases (ℕ_discrete i h)
                (λ q. inr (hit i p e (inl q)))
                (λ n. ⊎_elim (λ s. inl (own_there 0 i p n ∙ s)) (λ s. inr (hit i p e (inr s))) (P.hit i p e)));
            miss = rw (dist) (λ i p e. miss i p e ∙ P.miss i p e);
          }
        where
          dist : row b DIST ≡ row a DIST
          dist = row_other a AFTER h 0 DIST refl

    -- a turn of the loop
    pub passing_on : length g ≡ 1000 → Passing w then f (cond (eqb d w) (put g h 1) g) (released_at a w h)
    passing_on lg =
        ⊎_elim
        (λ m. rw (released_on a w h m, ne_eqb d w (omega arith)) (passing_file m))
        (λ m.
        rw (released_off a w h m)
        (by_cases (ℕ_discrete d w)
        (λ e.
        rw (eq-eqb d w e)
        (passing_leave m (put g h 1)
        (λ i p q. ⊎_elim
        (λ s. ap (at (put g h 1)) s ∙ put_same g h 1 ph.0 (omega (arith, ph.1, lg)))
        (λ s. by_cases (ℕ_discrete i h) (λ z. ap (at (put g h 1)) z ∙ put_same g h 1 ph.0 (omega (arith, ph.1, lg))) (λ z. put_other g h 1 i ph.0 p.0 z ∙ s)))
        (λ i p q. put_other g h 1 i ph.0 p.0 (λ z. q (ap (at (row a DIST)) z ∙ e)))))
        (λ n.
        rw (ne_eqb d w n)
        (passing_leave m g (λ i p q. ⊎_elim (λ s. absurd (n (sym (ap (at (row a DIST)) s) ∙ q))) (λ s. s)) (λ i p q. refl)))))
        (lt_or_ge w d)

    pub passing-only : Only (HEAD ∷ AFTER ∷ []) a (released_at a w h)
    unfolding among
    passing-only =
        let o = only-put (HEAD ∷ AFTER ∷ []) a AFTER h 0 refl in
        ⊎_elim
        (λ m. rw (released_on a w h m) (only_trans (HEAD ∷ AFTER ∷ []) a b (filed_at b h d) o (filed_only b lb h d)))
        (λ m. rw (released_off a w h m) o)
        (lt_or_ge w d)

    pub passing_less : length (walk (row (released_at a w h) AFTER) 1000 then) < length (walk (row a AFTER) 1000 h)
    passing_less =
        let c = rw first at (P.lists.chain w pw) in
        ⊎_elim
        (λ m.
        rw (released_on a w h m, filed_after b lb h d, row_same a AFTER h 0 L (omega arith), put-again (row a AFTER) h 0 (at (row b HEAD) d + 1))
        (walk_less (row a AFTER) (P.lists.on w) h (at (row b HEAD) d + 1) c some))
        (λ m. rw (released_off a w h m, row_same a AFTER h 0 L (omega arith)) (walk_less (row a AFTER) (P.lists.on w) h 0 c some))
        (lt_or_ge w d)
