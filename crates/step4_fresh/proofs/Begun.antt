-- The rows after the first i positions, one position more at a time: the last position that had its letter is the one before it in its group, or it is the first.
-- Assumes nothing.
use Prim.Native.Nat.{ℕ, ◌+◌, ◌-◌, ◌≤◌, ◌<◌}
use mathlib.Core.Path.{◌≡◌, refl, sym, ap, ◌∙◌}
use mathlib.Core.Logic.{⊎_elim, by_cases, ◌≢◌}
use mathlib.Core.Bool.{false}
use mathlib.Core.List.{List}
use native.Mathlib.Omega.{arith}
use native.Mathlib.Nat.{eq-or-lt_of_le}
use native.Mathlib.Decide.{ℕ_discrete}
use lib.ListN.{length, replicate}
use lib.Dec.{eqb}
use borrow.Author.Tests.{eq-eqb, ne_eqb}
use Rattle.words.specs.Range.{bit}
use Rattle.words.specs.Reads.{at, letter}
use Rattle.words.specs.Groups.{table, size}
use Rattle.words.proofs.Tests.{lt_or_ge}
use Rattle.words.proofs.Sums.{count_none, count_le}
use Rattle.words.proofs.Groups.{table-length, table-least}
use Rattle.words.proofs.Small.{all_small_at, all_small_length}
use Rattle.slots.specs.Slots.{put, put_some}
use Rattle.slots.proofs.Laws.{put_held, some-none, some-length, some_same, some_other, view_is}
use Rattle.refine.specs.Phases.{Clean}
use Rattle.refine.proofs.Links.{Before, nearest_gap, before_back}
use Rattle.read_letters.specs.Seen.{Latest, Seen}
use Rattle.read_letters.proofs.Kept.{seen_start}
use Rattle.read_letters.proofs.Joins.{last_joined, last_free, last_none}
use Rattle.step1_rows.specs.Rows.{row, put_at, Long, NAME, SIZE, PREV, DIST, HEAD, AFTER, TAIL}
use Rattle.step1_rows.proofs.Laws.{row_same, row_other, long-put}
use Rattle.step2_bits.specs.Sets.{flags, Empty}
use Rattle.step2_bits.proofs.Flags.{flags-length}
use Rattle.step3_lists.specs.Filed.{Listed}
use Rattle.step3_lists.proofs.Filing.{lists_none}
use Rattle.step4_fresh.specs.Fresh.{Blank, Joined, Began}
use Rattle.step4_fresh.proofs.Filling.{Filled, filled_none, filled_more, Near, size_to, size_to_above, counted_more}

-- the first i positions of the read x are done
pub record Begun (x seen : List ℕ) (a : List (List ℕ)) (small : List ℕ) (i : ℕ) : Type 0 where
  pub long : Long a
  pub names : Filled (λ j v. v ≡ at (table x 1) j) i (row a NAME)
  pub prevs : Filled (Before (table x 1)) i (row a PREV)
  pub dists : Filled (Near (table x 1) i) i (row a DIST)
  pub flagged : Filled (λ j v. v ≡ bit (eqb (at (table x 1) j) j)) i (flags small)
  pub counted : (s : ℕ) → 1 ≤ s → s ≤ 1000 → at (row a SIZE) s ≡ size_to (table x 1) i s
  pub met : Seen x i seen
  pub lists : Listed a
  pub tails : Clean (row a TAIL)

-- no position is done
pub begun_start : (a : List (List ℕ)) → Blank a → (x small : List ℕ) → Empty (flags small) → Begun x (replicate 256 0) a small 0
begun_start a B x small E =
    let clean : (r : ℕ) → r < 12 → Clean (row a r) = λ r h. record { long = B.long.each r h; none = λ i l m. B.none r i h l m } in
    record {
      long = B.long;
      names = filled_none _ _ (clean NAME (omega arith));
      prevs = filled_none _ _ (clean PREV (omega arith));
      dists = filled_none _ _ (clean DIST (omega arith));
      flagged = filled_none _ _ (record { long = flags-length small; none = E.none });
      counted = λ s l m. B.none SIZE s (omega arith) l m ∙ sym (count_none (λ j. eqb (at (table x 1) j) s) 0 1 (λ k c d. absurd (omega arith)));
      met = seen_start x;
      lists =
          lists_none _ _ _ (B.long.each DIST (omega arith)) (B.long.each HEAD (omega arith)) (B.long.each AFTER (omega arith))
          (λ i p. B.none DIST i (omega arith) p.0 p.1)
          (λ i p. B.none HEAD i (omega arith) p.0 p.1)
          (λ i p. B.none AFTER i (omega arith) p.0 p.1);
      tails = clean TAIL (omega arith);
    }

-- l is the last of the first i positions that has the letter of the next one, and seen' is kept after that one
module _ (x seen seen' : List ℕ) (a : List (List ℕ)) (small : List ℕ) (i l : ℕ) (last : Latest x i (letter x (i + 1)) l) (kept : Seen x (i + 1) seen')
    (B : Begun x seen a small i) (inside : i + 1 ≤ length x) (few : length x ≤ 1000) where
  abbrev t : List ℕ
  t = table x 1

  -- it is the position before the next one
  before_is : Before t (i + 1) l
  before_is =
      record { low = omega (arith, last.high); same = last_joined x i l last inside; free = λ k m d. last_free x i l last inside k m (omega arith) }

  -- so the distances are those of one position more
  near_here : 1 ≤ l → Near t (i + 1) l (i + 1 - l)
  near_here some =
      let N = before_is in
      let e : l + (i + 1 - l) ≡ i + 1 = omega (arith, N.low) in
      record {
        high = omega arith;
        same = ap (at t) e ∙ sym (N.same some);
        free = λ k m d q. N.free k m (omega arith) (q ∙ N.same some);
        end = λ z. absurd (omega (arith, z, N.low));
      }

  near-kept : (j d : ℕ) → 1 ≤ j → j ≢ l → Near t i j d → Near t (i + 1) j d
  near-kept j d low ne N =
      record {
        high = omega (arith, N.high);
        same = N.same;
        free = N.free;
        end = λ z k m h e. ⊎_elim (λ (q : k ≡ i + 1). next z (sym (ap (at t) q) ∙ e)) (λ (n : k < i + 1). N.end z k m (omega arith) e) (eq-or-lt_of_le h);
      }
    where
      -- the next position has only l before it
      next : d ≡ 0 → at t (i + 1) ≡ at t j → ⊥
      next z e =
          let P = before_is in
          ⊎_elim
          (λ (m : l < j). P.free j m (omega (arith, N.high)) (sym e))
          (λ m. N.end z l (omega arith) (omega (arith, P.low)) (P.same (omega arith) ∙ e))
          (lt_or_ge l j)

  near-at : (j : ℕ) → 1 ≤ j → j ≤ i + 1 → Near t (i + 1) j (at (put_some (row a DIST) l (i + 1 - l)) j)
  near-at j m h = by_cases (ℕ_discrete j l) here there
    where
      here : j ≡ l → Near t (i + 1) j (at (put_some (row a DIST) l (i + 1 - l)) j)
      here q = rw (q, some_same (row a DIST) l (i + 1 - l) (omega arith) (omega (arith, B.dists.long))) (near_here (omega arith))

      there : j ≢ l → Near t (i + 1) j (at (put_some (row a DIST) l (i + 1 - l)) j)
      there ne =
          rw (some_other (row a DIST) l (i + 1 - l) j m ne)
          (⊎_elim
          (λ (q : j ≡ i + 1).
          rw (B.dists.beyond j (omega arith) (omega arith))
          (record { high = omega arith; same = ap (at t) (omega arith); free = λ k n d. absurd (omega arith); end = λ z k n d. absurd (omega arith) }))
          (λ (n : j < i + 1). near-kept j (at (row a DIST) j) m ne (B.dists.held j m (omega arith)))
          (eq-or-lt_of_le h))

  -- the next position is done: its name is s
  begun_more : (a' : List (List ℕ)) (small' : List ℕ) (s : ℕ) → at t (i + 1) ≡ s → 1 ≤ s → s ≤ 1000 → Joined a a' l (i + 1) s
      → flags small' ≡ put (flags small) (i + 1) (bit (eqb s (i + 1))) → Begun x seen' a' small' (i + 1)
  begun_more a' small' s is low high J F =
      record {
        long = J.long;
        names = rw J.name (filled_more _ i _ s B.names (omega arith) (sym is));
        prevs = rw J.prev (filled_more _ i _ l B.prevs (omega arith) before_is);
        dists = rw J.dist
            (record {
              long = some-length (row a DIST) l (i + 1 - l) ∙ B.dists.long;
              held = near-at;
              beyond = λ j m h. some_other (row a DIST) l (i + 1 - l) j (omega arith) (omega (arith, before_is.low)) ∙ B.dists.beyond j (omega arith) h;
            });
        flagged = rw F (filled_more _ i _ _ B.flagged (omega arith) (rw is refl));
        counted = rw J.size (counted_more t (row a SIZE) i s (B.long.each SIZE (omega arith)) is low high B.counted);
        met = kept;
        lists = J.lists;
        tails = rw J.tail B.tails;
      }

  -- the next position joins the group of l
  module _ (some : 1 ≤ l) where
    named : at t (i + 1) ≡ at (row a NAME) l
    named = sym (B.names.held l some (omega (arith, before_is.low)) ∙ before_is.same some)

    named-within : (1 ≤ at (row a NAME) l) × (at (row a NAME) l ≤ i)
    named-within =
        let m : l ≤ length t = omega (arith, before_is.low, table-length x 1) in
        let e = B.names.held l some (omega (arith, before_is.low)) in
        (omega (arith, e, (table-least x 1).low l some m), omega (arith, e, before_is.low, (table-least x 1).high l some m))

    -- l has no distance yet
    far : at (row a DIST) l ≡ 0
    far =
        let N = B.dists.held l some (omega (arith, before_is.low)) in
        ⊎_elim (λ m. absurd (before_is.free (l + at (row a DIST) l) (omega arith) (omega (arith, N.high)) (N.same ∙ before_is.same some))) (λ m. omega arith) (lt_or_ge 0 (at (row a DIST) l))

    pub join_asks : Long a × Listed a × (1 ≤ l) × (l < i + 1) × (i + 1 ≤ 1000) × (1 ≤ at (row a NAME) l) × (at (row a NAME) l ≤ 1000)
        × (at (row a SIZE) (at (row a NAME) l) < 1000) × (at (row a DIST) l ≡ 0)
    join_asks =
        let s = at (row a NAME) l in
        let w = named-within in
        let fewer : at (row a SIZE) s < 1000 = omega (arith, B.counted s w.0 (omega (arith, w.1)), count_le (λ j. eqb (at t j) s) i 1) in
        (B.long, B.lists, some, before_is.low, omega arith, w.0, omega (arith, w.1), fewer, far)

    pub begun-next : (a' : List (List ℕ)) → Joined a a' l (i + 1) (at (row a NAME) l) → Begun x seen' a' small (i + 1)
    begun-next a' J =
        let s = at (row a NAME) l in
        let w = named-within in
        let flag = B.flagged.beyond (i + 1) (omega arith) (omega arith) ∙ sym (ap bit (ne_eqb s (i + 1) (λ e. omega (arith, e, w.1)))) in
        begun_more a' small s named w.0 (omega (arith, w.1)) J (sym (put_held (flags small) (i + 1) (bit (eqb s (i + 1))) flag))

  -- the next position is the first of its group
  pub begun_first : (small' : List ℕ) → l ≡ 0 → flags small' ≡ put (flags small) (i + 1) 1
      → Begun x seen' (put_at (put_at a NAME (i + 1) (i + 1)) SIZE (i + 1) 1) small' (i + 1)
  begun_first small' none flag =
      let j = i + 1 in
      let f = put_at a NAME j j in
      let g = put_at f SIZE j 1 in
      let lf = long-put a NAME j j B.long in
      let m : j ≤ length t = omega (arith, table-length x 1) in
      let first : at t j ≡ j = last_none x i l last inside none in
      let zero : at (row a SIZE) j ≡ 0 = B.counted j (omega arith) (omega arith) ∙ size_to_above t (table-least x 1) i j (omega arith) (omega arith) in
      let kept : (r : ℕ) → eqb SIZE r ≡ false → eqb NAME r ≡ false → row g r ≡ row a r =
      λ r h k. row_other f SIZE j 1 r h ∙ row_other a NAME j j r k in
      begun_more g small' j first (omega arith) (omega arith)
      (record {
        long = long-put f SIZE j 1 lf;
        name = row_other f SIZE j 1 NAME refl ∙ row_same a NAME j j B.long (omega arith);
        size = row_same f SIZE j 1 lf (omega arith) ∙ rw (row_other a NAME j j SIZE refl, zero) refl;
        prev = kept PREV refl refl ∙ sym (put_held (row a PREV) j l (B.prevs.beyond j (omega arith) (omega arith) ∙ sym none));
        dist = kept DIST refl refl ∙ sym (some-none (row a DIST) l (j - l) none);
        tail = kept TAIL refl refl;
        lists = rw (kept DIST refl refl, kept HEAD refl refl, kept AFTER refl refl) B.lists;
      })
      (flag ∙ rw (eq-eqb j j refl) refl)

-- every position is done
pub begun-end : (x seen : List ℕ) (a : List (List ℕ)) (small : List ℕ) (n : ℕ) → length x ≡ n → n ≤ 1000 → Begun x seen a small n → Began x n a small
unfolding size
begun-end x seen a small n all few B =
    let t = table x 1 in
    let long : length t ≡ n = table-length x 1 ∙ all in
    record {
      long = B.long;
      names = view_is n (row a NAME) t long (omega (arith, B.names.long)) B.names.held;
      name_beyond = B.names.beyond;
      prev_beyond = B.prevs.beyond;
      dist_beyond = B.dists.beyond;
      links = record {
        next = λ i c d.
            let N = B.dists.held i c (omega arith) in
            sym (nearest_gap t i (at (row a DIST) i) c d (record { high = omega (arith, N.high); same = N.same; free = N.free; end = λ z k l m. N.end z k l (omega arith) }));
        last = λ i c d. sym (before_back t i (at (row a PREV) i) c (B.prevs.held i c (omega arith)));
      };
      sized = record {
        long = B.long.each SIZE (omega arith);
        held = λ k c d. rw long (B.counted k c (omega arith));
        beyond = λ k c d. B.counted k (omega arith) d ∙ size_to_above t (table-least x 1) n k (omega arith) (omega arith);
      };
      lists = B.lists;
      tails = B.tails;
      flags = record {
        long = B.flagged.long;
        held = λ s c d. let h : s ≤ length t = rw (all_small_length t) at d in B.flagged.held s c (omega arith) ∙ sym (all_small_at t s c h);
        rest = λ s c d. B.flagged.beyond s (omega (arith, all_small_length t)) d;
      };
    }
