-- The rows once a place is filed, or has another distance: who waited waits. Assumes nothing.
use Prim.Native.Nat.{ℕ, suc, ◌+◌, ◌≤◌, ◌<◌}
use mathlib.Core.Path.{◌≡◌, refl, ap, ◌∙◌}
use mathlib.Core.Bool.{false}
use mathlib.Core.Logic.{⊎_elim, ◌≢◌}
use mathlib.Core.List.{List, [], ◌∷◌, Memᴰ}
use native.Mathlib.Omega.{arith}
use lib.Dec.{eqb}
use borrow.Author.Tests.{lt-ltb, le-ltb}
use Rattle.words.specs.Reads.{at}
use Rattle.words.proofs.Tests.{lt_or_ge}
use Rattle.slots.specs.Slots.{put}
use Rattle.slots.proofs.Laws.{put_same}
use Rattle.step1_rows.specs.Rows.{row, put_at, Long, among, inside, Only, DIST, HEAD, AFTER}
use Rattle.step1_rows.proofs.Laws.{row_same, row_other, long-put, only-put, only_trans, only_more}
use Rattle.step3_lists.specs.Lists.{Place}
use Rattle.step3_lists.specs.Walk.{walk}
use Rattle.step3_lists.specs.Waits.{WaitingFor, Waiting}
use Rattle.step3_lists.specs.Filed.{Heads, Listed, filed_at, released_at, Changed}
use Rattle.step3_lists.proofs.Filing.{lists_heads, lists_walk, lists_place, lists_free, lists_file}
use Rattle.step3_lists.proofs.Waits.{waits_own, waits_dist, waits_on}

-- ---- the rows once i is filed under d

module _ (a : List (List ℕ)) (L : Long a) (i d : ℕ) where
  abbrev v : ℕ
  v = at (row a HEAD) d + 1

  pub filed_long : Long (filed_at a i d)
  unfolding filed_at
  filed_long = long-put (put_at a AFTER i v) HEAD d i (long-put a AFTER i v L)

  pub filed_after : row (filed_at a i d) AFTER ≡ put (row a AFTER) i v
  unfolding filed_at
  filed_after = row_other (put_at a AFTER i v) HEAD d i AFTER refl ∙ row_same a AFTER i v L (omega arith)

  pub filed_head : row (filed_at a i d) HEAD ≡ put (row a HEAD) d i
  unfolding filed_at
  filed_head =
      row_same (put_at a AFTER i v) HEAD d i (long-put a AFTER i v L) (omega arith) ∙ ap (λ (l : List ℕ). put l d i) (row_other a AFTER i v HEAD refl)

  pub filed_only : Only (HEAD ∷ AFTER ∷ []) a (filed_at a i d)
  unfolding filed_at among
  filed_only =
      only_trans (HEAD ∷ AFTER ∷ []) a (put_at a AFTER i v) (filed_at a i d)
      (only-put (HEAD ∷ AFTER ∷ []) a AFTER i v refl)
      (only-put (HEAD ∷ AFTER ∷ []) (put_at a AFTER i v) HEAD d i refl)

  pub filed_dist : row (filed_at a i d) DIST ≡ row a DIST
  unfolding filed_at
  filed_dist = row_other (put_at a AFTER i v) HEAD d i DIST refl ∙ row_other a AFTER i v DIST refl

-- ---- the rows once i has left the list of w

module _ (a : List (List ℕ)) (w i : ℕ) where
  pub released_on : w < at (row a DIST) i → released_at a w i ≡ filed_at (put_at a AFTER i 0) i (at (row a DIST) i)
  unfolding released_at
  released_on h = rw (lt-ltb w (at (row a DIST) i) h)

  pub released_off : at (row a DIST) i ≤ w → released_at a w i ≡ put_at a AFTER i 0
  unfolding released_at
  released_off h = rw (le-ltb w (at (row a DIST) i) h)

-- ---- who waits

pub waiting_heads : {b : ℕ} {last : ℕ → ℕ} (a : List (List ℕ)) → WaitingFor b last a → Heads a
waiting_heads a W d p = lists_heads W.lists d p

-- a store to another row leaves the heads
pub heads_put : (a : List (List ℕ)) (r i v : ℕ) → eqb r HEAD ≡ false → Heads a → Heads (put_at a r i v)
heads_put a r i v e H d p = rw (row_other a r i v HEAD e) (H d p)

-- at width b no position of distance b is missing from the list of b
pub waiting_has : {b : ℕ} (a : List (List ℕ)) → Waiting b a → 1 ≤ b → (i : ℕ) → Place i → at (row a DIST) i ≡ b → Memᴰ i (walk (row a AFTER) 1000 (at (row a HEAD) b))
waiting_has {b} a W l i p e =
    let X = W.waits in
    let s = X.there i p (omega (arith, e)) in
    let d : Place b = (l, omega (arith, e, X.low i p)) in
    rw (lists_walk W.lists b d) (W.lists.listed b i d p (omega (arith, e, X.above i p s, X.early i p s (omega (arith, e)))))

-- and whatever a walk along a list comes to is a place
pub waiting_place : {b : ℕ} (a : List (List ℕ)) → Waiting b a → (d i : ℕ) → 1 ≤ d → Memᴰ i (walk (row a AFTER) 1000 (at (row a HEAD) d)) → Place i
waiting_place a W d i l m = lists_place W.lists d i l m

-- the last distances may be others, where none is below the list
pub waiting_last : {b : ℕ} {last : ℕ → ℕ} (a : List (List ℕ)) (W : WaitingFor b last a) (to : ℕ → ℕ) → ((i : ℕ) → Place i → 1 ≤ at W.own i → 1 ≤ to i → at W.own i ≤ to i)
    → WaitingFor b to a
waiting_last a W to f =
    let X = W.waits in
    record { own = W.own; lists = W.lists; waits = record { low = X.low; above = X.above; there = X.there; early = f } }

-- other rows do not matter
module _ {b : ℕ} (a c : List (List ℕ)) (d : row c DIST ≡ row a DIST) (h : row c HEAD ≡ row a HEAD) (f : row c AFTER ≡ row a AFTER) where
  pub waiting_for_rows : {last : ℕ → ℕ} → WaitingFor b last a → WaitingFor b last c
  waiting_for_rows W = record { own = W.own; lists = rw (h, f) W.lists; waits = rw d W.waits }

  pub waiting_rows : Waiting b a → Waiting b c
  waiting_rows W = rw d (waiting_for_rows W)

-- a place without a distance need not wait
pub waiting_zero : {b : ℕ} {last : ℕ → ℕ} (a c : List (List ℕ)) (i : ℕ) → Long a → Place i → row c DIST ≡ put (row a DIST) i 0 → row c HEAD ≡ row a HEAD → row c AFTER ≡ row a AFTER
    → 1 ≤ b → WaitingFor b last a → WaitingFor b last c
waiting_zero a c i L p d h f m W =
    record {
      own = W.own;
      lists = rw (h, f) W.lists;
      waits = rw d (waits_dist (row a DIST) W.waits i 0 p (L.each DIST (omega arith)) (omega arith) (λ k. absurd (omega arith)));
    }

-- a place that gets its first distance, and is filed under it
pub listed_file : (a : List (List ℕ)) → Long a → Listed a → (i d : ℕ) → Place i → Place d → at (row a DIST) i ≡ 0 → Listed (filed_at (put_at a DIST i d) i d)
listed_file a L S i d pi pd none =
    let b = put_at a DIST i d in
    let lb = long-put a DIST i d L in
    rw (filed_dist b lb i d, filed_head b lb i d, filed_after b lb i d, row_same a DIST i d L (omega arith), row_other a DIST i d HEAD refl, row_other a DIST i d AFTER refl)
    (lists_file S i d pi pd none)

-- a place on the list of its own distance waits for it, from width 1 on
pub waiting_listed : (a : List (List ℕ)) → Listed a → Waiting 1 a
waiting_listed a L = record { own = row a DIST; lists = L; waits = waits_own (row a DIST) L.within }

-- ---- i gets the distance d

module _ (w : ℕ) (a : List (List ℕ)) (L : Long a) (i d : ℕ) (p : Place i) (low : d ≤ 1000) where
  abbrev b : List (List ℕ)
  b = put_at a DIST i d

  -- it need not wait, or does
  pub changed_kept : ((last : ℕ → ℕ) (W : WaitingFor (suc w) last a) → suc w ≤ d → 1 ≤ at W.own i) → Changed w a b i d
  unfolding among
  changed_kept f =
      record {
        long = long-put a DIST i d L;
        dist = row_same a DIST i d L (omega arith);
        only = only-put (DIST ∷ HEAD ∷ AFTER ∷ []) a DIST i d refl;
        waits = λ last W m.
            record {
              own = W.own;
              lists = rw (row_other a DIST i d HEAD refl, row_other a DIST i d AFTER refl) W.lists;
              waits = rw (row_same a DIST i d L (omega arith)) (waits_dist (row a DIST) W.waits i d p (L.each DIST (omega arith)) low (f last W));
            };
      }

  pub changed_below : d ≤ w → Changed w a b i d
  changed_below h = changed_kept (λ last W m. absurd (omega arith))

  pub changed_on : at (row b AFTER) i ≢ 0 → Changed w a b i d
  changed_on n =
      changed_kept
      (λ last W m.
      ⊎_elim (λ l. l) (λ l. absurd (n (ap (λ (x : List ℕ). at x i) (row_other a DIST i d AFTER refl) ∙ W.lists.free i p (omega arith)))) (lt_or_ge 0 (at W.own i)))

  -- it waits on the list of d
  pub changed_filed : at (row b AFTER) i ≡ 0 → w < d → Changed w a (filed_at b i d) i d
  unfolding among inside
  changed_filed z h =
      record {
        long = filed_long b lb i d;
        dist = filed_dist b lb i d ∙ row_same a DIST i d L (omega arith);
        only = only_trans (DIST ∷ HEAD ∷ AFTER ∷ []) a b (filed_at b i d)
            (only-put (DIST ∷ HEAD ∷ AFTER ∷ []) a DIST i d refl)
            (only_more (HEAD ∷ AFTER ∷ []) (DIST ∷ HEAD ∷ AFTER ∷ []) b (filed_at b i d) refl (filed_only b lb i d));
        waits = λ last W m.
            record {
              own = put W.own i d;
              lists = rw (filed_head b lb i d, filed_after b lb i d, row_other a DIST i d HEAD refl, row_other a DIST i d AFTER refl)
                  (lists_file W.lists i d p (omega arith, low) (lists_free W.lists i p (rw (row_other a DIST i d AFTER refl) at z)));
              waits = rw (filed_dist b lb i d, row_same a DIST i d L (omega arith))
                  (waits_dist (row a DIST)
                  (waits_on (row a DIST) W.waits i d p W.lists.lo (λ k. h) (λ k. omega arith) (λ k n. m p.0 n))
                  i d p (L.each DIST (omega arith)) low
                  (λ k. rw (put_same W.own i d p.0 (omega (arith, p.1, W.lists.lo))) (omega arith)));
            };
      }
    where
      lb : Long b
      lb = long-put a DIST i d L
