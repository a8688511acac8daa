-- The rows while one position leaves its group: what the stores of each function leave is what its record says. Assumes nothing.
use Prim.Native.Nat.{ℕ, ◌+◌, ◌≤◌}
use mathlib.Core.Path.{◌≡◌, refl, sym, ap, ◌∙◌}
use mathlib.Core.Bool.{false}
use mathlib.Core.List.{List, [], ◌∷◌}
use native.Mathlib.Omega.{arith}
use lib.Dec.{eqb}
use borrow.Author.Tests.{lt-ltb, le-ltb}
use Rattle.words.specs.Reads.{at}
use Rattle.slots.proofs.Laws.{put_held, some_is, some-none, some_other}
use Rattle.step1_rows.specs.Rows.{row, put_at, Long, among, inside, PREV, DIST, HEAD, AFTER, REST}
use Rattle.step1_rows.proofs.Laws.{row_same, row_other, long-put, only_none, only-put, only_trans, only_more, only_row}
use Rattle.step3_lists.specs.Filed.{Changed}
use Rattle.step3_lists.proofs.Changing.{heads_put, waiting_for_rows, waiting_zero}
use Rattle.step6_leave.specs.Links.{joined, bridged}
use Rattle.step6_leave.specs.Gone.{Leavable, rest_after, Closed, Detached, Gone}
use Rattle.step6_leave.proofs.Stores.{ahead_is, ahead_none}

abbrev Three : List ℕ
Three = DIST ∷ HEAD ∷ AFTER ∷ []

-- a store to another row leaves what a move asks
pub leavable_put : (a : List (List ℕ)) (r j v k i : ℕ) → eqb r PREV ≡ false → eqb r DIST ≡ false → eqb r HEAD ≡ false → Leavable a k i → Leavable (put_at a r j v) k i
leavable_put a r j v k i p d h A =
    record {
      long = long-put a r j v A.long;
      heads = heads_put a r j v h A.heads;
      named = A.named;
      low = A.low;
      back = rw (row_other a r j v PREV p) A.back;
      ahead = rw (row_other a r j v DIST d) A.ahead;
      over = rw (row_other a r j v PREV p, row_other a r j v DIST d) A.over;
    }

-- ---- seen from before

module _ (w : ℕ) (a : List (List ℕ)) (k i p d : ℕ) where
  pub closed_some : (b : List (List ℕ)) → 1 ≤ p → Changed w a b p (joined (at (row a DIST) p) d) → Closed w a b k i p d
  unfolding rest_after among inside
  closed_some b h R =
      record {
        long = R.long;
        waits = R.waits;
        dist = R.dist ∙ sym (some_is (row a DIST) p (joined (at (row a DIST) p) d) h);
        rest = only_row Three a b REST R.only refl ∙ rw (lt-ltb 0 p h);
        only = only_more Three (REST ∷ Three) a b refl R.only;
      }

  pub closed_none : Long a → p ≡ 0 → Closed w a (put_at a REST k (joined i d)) k i p d
  unfolding rest_after among
  closed_none L h =
      record {
        long = long-put a REST k (joined i d) L;
        waits = λ last W m.
            waiting_for_rows a (put_at a REST k (joined i d))
            (row_other a REST k (joined i d) DIST refl) (row_other a REST k (joined i d) HEAD refl) (row_other a REST k (joined i d) AFTER refl) W;
        dist = row_other a REST k (joined i d) DIST refl ∙ sym (some-none (row a DIST) p (joined (at (row a DIST) p) d) h);
        rest = row_same a REST k (joined i d) L (omega arith) ∙ rw (le-ltb 0 p (omega arith));
        only = only-put (REST ∷ Three) a REST k (joined i d) refl;
      }

-- ---- seen from after

module _ (a : List (List ℕ)) (i p d : ℕ) (L : Long a) where
  abbrev off : List (List ℕ)
  off = put_at a DIST i 0

  pub detached_some : 1 ≤ d → Detached a (put_at off PREV (i + d) p) i p d
  unfolding among
  detached_some h =
      let lo = long-put a DIST i 0 L in
      record {
        long = long-put off PREV (i + d) p lo;
        dist = row_other off PREV (i + d) p DIST refl ∙ row_same a DIST i 0 L (omega arith);
        prev = row_same off PREV (i + d) p lo (omega arith) ∙ rw (row_other a DIST i 0 PREV refl) (sym (ahead_is (row a PREV) i d p h));
        only =
            only_trans (PREV ∷ DIST ∷ []) a off (put_at off PREV (i + d) p)
            (only-put (PREV ∷ DIST ∷ []) a DIST i 0 refl) (only-put (PREV ∷ DIST ∷ []) off PREV (i + d) p refl);
      }

  pub detached_none : d ≡ at (row a DIST) i → d ≡ 0 → Detached a a i p d
  detached_none e h =
      record {
        long = L;
        dist = sym (put_held (row a DIST) i 0 (omega arith));
        prev = sym (ahead_none (row a PREV) i d p h);
        only = only_none (PREV ∷ DIST ∷ []) a;
      }

-- ---- both

module _ (w : ℕ) (a b : List (List ℕ)) (k i p d : ℕ) (A : Leavable a k i) (hp : p ≡ at (row a PREV) i) (hd : d ≡ at (row a DIST) i) (C : Closed w a b k i p d) where
  -- the distance of i stays while what is before it gets another
  pub closed_dist : d ≡ at (row b DIST) i
  closed_dist =
      hd
      ∙ sym (ap (λ (l : List ℕ). at l i) C.dist
      ∙ some_other (row a DIST) p (joined (at (row a DIST) p) d) i A.low (omega (arith, hp, A.back)))

  pub gone : (c : List (List ℕ)) → Detached b c i p d → Gone w a c k i
  unfolding bridged among inside
  gone c D =
      record {
        long = D.long;
        waits = λ last W m.
            waiting_zero b c i C.long (A.low, omega (arith, A.ahead)) D.dist
            (only_row (PREV ∷ DIST ∷ []) b c HEAD D.only refl) (only_row (PREV ∷ DIST ∷ []) b c AFTER D.only refl)
            (omega arith) (C.waits last W (rw (hp, hd) m));
        dist = D.dist ∙ rw (C.dist, hp, hd) refl;
        prev = D.prev ∙ rw (only_row (REST ∷ Three) a b PREV C.only refl, hp, hd) refl;
        rest = only_row (PREV ∷ DIST ∷ []) b c REST D.only refl ∙ rw (C.rest, hp, hd) refl;
        only =
            only_trans (PREV ∷ REST ∷ Three) a b c
            (only_more (REST ∷ Three) (PREV ∷ REST ∷ Three) a b refl C.only)
            (only_more (PREV ∷ DIST ∷ []) (PREV ∷ REST ∷ Three) b c refl D.only);
      }
