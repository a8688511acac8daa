-- The turns of the loop over the queue: the start, a turn in its four cases, and the end. Those alone in their groups do not move, and the others are the
-- places of `leaving t Q`, one after another: after q places as many have moved as are among them. Assumes nothing.
use Prim.Native.Nat.{ℕ, suc, ◌+◌, ◌-◌, ◌≤◌, ◌<◌}
use mathlib.Core.Path.{◌≡◌, refl, sym, ap, ◌∙◌}
use mathlib.Core.Logic.{⊎_elim, ◌≢◌}
use mathlib.Core.Bool.{true}
use mathlib.Core.List.{List, [], ◌∷◌}
use native.Mathlib.Numerals.{add-one}
use native.Mathlib.Omega.{arith}
use lib.ListN.{length}
use borrow.Author.Tests.{lt-ltb, le-ltb}
use Rattle.words.specs.Range.{gather}
use Rattle.words.specs.Reads.{at}
use Rattle.words.specs.Groups.{gap}
use Rattle.words.proofs.Tests.{lt_or_ge}
use Rattle.slots.specs.Slots.{view}
use Rattle.slots.proofs.Laws.{view-length, view-at}
use Rattle.step1_rows.specs.Rows.{row, put_at, among, NAME, SIZE, DIST, QUE, TAIL, REST, TOUCHED}
use Rattle.step1_rows.proofs.Laws.{only_none}
use Rattle.step3_lists.specs.Lists.{Place}
use Rattle.step3_lists.specs.Filed.{Changed}
use Rattle.step3_lists.proofs.Changing.{waiting_last}
use Rattle.refine.specs.Refine.{has, next_of}
use Rattle.refine.specs.Phases.{Bare}
use Rattle.refine.specs.Leaving.{Known, paired, leaving}
use Rattle.refine.proofs.Queues.{has_is, has-inside, lined_once}
use Rattle.refine.proofs.Next.{next-length, next_refines}
use Rattle.refine.proofs.Links.{gap_grows}
use Rattle.refine.proofs.Leaving.{leaving_grow, leaving_stay, leaving_few, leaving-inside, leaving-at, leaving_from, from_at, leaving-lined}
use Rattle.step6_leave.specs.Gone.{Leavable, Gone, begun_at, counted_at, Joinable}
use Rattle.step7_moves.specs.Relink.{Past, codes}
use Rattle.step7_moves.specs.Parted.{Next, reached}
use Rattle.step7_moves.specs.Moves.{Movable, Moved}
use Rattle.step7_moves.specs.Moving.{MovedTo, left_by, Moving, Turn}
use Rattle.step7_moves.proofs.Prior.{past_has}
use Rattle.step7_moves.proofs.Codes.{codes_linked, lead_last}
use Rattle.step7_moves.proofs.Parted.{reached-none, reached-all, reached-part, parted_few, tail_end, tail_few, tail_split, tail_paired, size-paired, size-some}
use Rattle.step7_moves.proofs.Stepped.{out_row}
use Rattle.step7_moves.proofs.MovedOn.{move_asks, moved-first, moved_begin, join_asks, moved_join}

-- ---- the end, once all of S have moved

pub moved-end : {t S : List ℕ} {n w s h g : ℕ} {o a : List (List ℕ)} → Known t S n → Bare n (row o DIST) → s ≡ length S → MovedTo t S n w s h g o a → Moved w t S n o a h g
moved-end {t} {S} {n} {s = s} {a = a} K bare all M =
    record {
      long = M.long;
      names = M.names;
      links = codes_linked K (rw all at M.links);
      prev_beyond = M.prev_beyond;
      dist_beyond = M.dist_beyond;
      waits = waiting_last a M.waits (at (row a DIST)) ended;
      sizes = record {
        long = M.long.each SIZE (omega arith);
        held = λ k b d. omega (arith, M.parted.left k b d, reached-all t S k K.lined, ap (λ (v : ℕ). reached t S v k) all);
        beyond = M.parted.beyond;
      };
      many = λ c B.
          (rw (B.named, all) at (M.parted.counted c (rw all (has_is S c B.moves)))) ∙ reached-part K c B.moves;
      rests = λ k B.
          let w = has-inside S t K.lined B.who B.moves in
          let E = M.rests k (record { who = B.who; past = rw all (has_is S B.who B.moves); of = B.of }) in
          lead_last K k (at (row a REST) k) (omega (arith, B.of, K.least.high B.who w.0 (omega (arith, w.1)), w.1, K.few, K.long)) (rw all at E);
      tails = record {
        long = M.long.each TAIL (omega arith);
        none = λ k b d free. ⊎_elim
            (λ l. let B = tail_split K M.parted b d l in absurd (free B.who (moves B.past) B.of))
            (λ l. omega arith)
            (lt_or_ge 0 (at (row a TAIL) k));
      };
      parts = record {
        few = omega (arith, M.parted.parts.few, parted_few K M.parted);
        part = λ j b d. let B = M.parted.parts.some j b d in record { moves = moves B.past; named = B.named };
        once = M.parted.unlike.once;
        all = λ c B. M.parted.parts.all c (record { past = rw all (has_is S c B.moves); named = B.named });
      };
      groups = record {
        few = omega (arith, M.parted.groups.few, parted_few K M.parted);
        group = λ j b d. let B = M.parted.groups.some j b d in record { who = B.who; moves = moves B.past; of = B.of };
        all = λ k B. M.parted.groups.all k (record { who = B.who; past = rw all (has_is S B.who B.moves); of = B.of });
      };
    }
  where
    moves : {i : ℕ} → Past S s i → has S i ≡ true
    moves {i} p = past_has S s i M.parted.within p

    -- each distance is the one at the next width
    ended : (i : ℕ) → Place i → 1 ≤ at M.waits.own i → 1 ≤ at (row a DIST) i → at M.waits.own i ≤ at (row a DIST) i
    ended i p l m =
        ⊎_elim
        (λ o. absurd (omega (arith, m, M.dist_beyond i o p.1, bare i o p.1)))
        (λ o.
        let e : at (row a DIST) i ≡ gap (next_of t S) i = (codes_linked K (rw all at M.links)).next i p.0 (omega (arith, o, K.long, next-length t S)) in
        rw e (M.waits.waits.early i p l (rw e at m)))
        (lt_or_ge n i)

module _ {n m w : ℕ} {o : List (List ℕ)} (R : Movable n m w o) where
  abbrev t : List ℕ
  t = view n (row o NAME)

  abbrev Q : List ℕ
  Q = view m (row o QUE)

  t-long : length t ≡ n
  t-long = view-length n (row o NAME) (omega (arith, R.few, R.long.each NAME (omega arith)))

  Q-long : length Q ≡ m
  Q-long = view-length m (row o QUE) (omega (arith, R.few, R.queued, R.long.each QUE (omega arith)))

  known : Known t (leaving t Q) n
  known = record { few = R.few; long = t-long; least = R.least; lined = leaving-lined t Q R.lined }

  none : (j : ℕ) → Past (leaving t Q) 0 j → ⊥
  none j p = omega (arith, p.1, p.2)

  -- who waits at this width waits for the next, as no distance falls
  begun_early : (i : ℕ) → Place i → 1 ≤ at R.waits.own i → 1 ≤ gap (next_of t (leaving t Q)) i → at R.waits.own i ≤ gap (next_of t (leaving t Q)) i
  begun_early i p l m =
      let f = gap_grows t (next_of t (leaving t Q)) (next_refines t (leaving t Q)) i p.0 m in
      let e = R.links.next i p.0 (omega (arith, f.0, next-length t (leaving t Q))) in
      omega (arith, f.2, e, R.waits.waits.early i p l (omega (arith, f.1, e)))

  pub moving_start : Moving n m w o o 0 0 0
  unfolding codes gather
  moving_start =
      record {
        done = omega arith;
        moved = record {
          long = R.long;
          names = refl;
          waits = waiting_last o R.waits (gap (next_of t (leaving t Q))) begun_early;
          links = R.links;
          prev_beyond = R.prev_beyond;
          dist_beyond = λ i a b. refl;
          parted = record {
            within = omega arith;
            tails = λ k a b.
                record { place = 0; within = omega arith; free = λ r c d. absurd (omega arith); none = λ e. R.tails.none k a b; some = λ c. absurd (omega arith) };
            left = λ k a b. omega (arith, reached-none t (leaving t Q) k 0 (λ j p. absurd (none j p)), R.sized.held k a b);
            beyond = R.sized.beyond;
            joined = λ k a b l. absurd (omega (arith, l, R.tails.none k a b));
            counted = λ j p. absurd (none j p);
            parts = record { few = omega arith; some = λ j a b. absurd (omega arith); all = λ c B. absurd (none c B.past) };
            unlike = record { once = λ j r a b. absurd (omega arith) };
            groups = record { few = omega arith; some = λ j a b. absurd (omega arith); all = λ k B. absurd (none B.who B.past) };
          };
          ahead = λ r l. refl;
          rests = λ k B. absurd (none B.who B.past);
        };
      }

  pub moving-end : {a : List (List ℕ)} {q h g : ℕ} → m ≤ q → Moving n m w o a q h g → Moved w t (leaving t Q) n o a h g
  unfolding leaving
  moving-end l M = moved-end known R.dist_beyond (ap (left_by t Q) (omega (arith, M.done, Q-long))) M.moved

-- what a turn asks
pub turn_here : {n m w q i h g : ℕ} {o a : List (List ℕ)} → Movable n m w o → q < m → i ≡ at (row a QUE) (q + 1) → Moving n m w o a q h g → Turn n m w q o a i h g
turn_here {q = q} R l e M = record { start = R; more = l; here = rw (add-one q) at e; moving = M }

module _ {n m w q i h g : ℕ} {o a : List (List ℕ)} (T : Turn n m w q o a i h g) where
  abbrev tab : List ℕ
  tab = view n (row o NAME)

  abbrev que : List ℕ
  que = view m (row o QUE)

  abbrev s : ℕ
  s = left_by tab que q

  K : Known tab (leaving tab que) n
  K = known T.start

  M : MovedTo tab (leaving tab que) n w s h g o a
  M = T.moving.moved

  within : q < length que
  within = omega (arith, T.more, Q-long T.start)

  here : i ≡ at que (suc q)
  here = T.here ∙ M.ahead (suc q) (omega (arith, leaving_few tab que q)) ∙ sym (view-at m (row o QUE) (suc q) (omega arith) T.more)

  pub turn_place : (1 ≤ i) × (suc i ≤ n)
  turn_place = let w = T.start.lined.inside (suc q) (omega arith) within in (omega (arith, w.0, here), omega (arith, w.1, here, K.long))

  i_in : i ≤ length tab
  i_in = omega (arith, turn_place.1, K.long)

  name-at : (j : ℕ) → 1 ≤ j → j ≤ n → at (row a NAME) j ≡ at tab j
  name-at j b c = ap (λ (l : List ℕ). at l j) M.names ∙ sym (view-at n (row o NAME) j b c)

  pub turn-room : (h < 1000) × (g < 1000)
  turn-room =
      let few = leaving_few tab que q in
      let more = T.more in
      (omega (arith, M.parted.parts.few, T.start.queued, T.start.few), omega (arith, M.parted.groups.few, T.start.queued, T.start.few))

  -- i has not moved before
  fresh : Past (leaving tab que) s i → ⊥
  fresh p =
      let v = leaving_from tab que q p.0 p.1 p.2 in
      let early = v.early in
      let same : suc v.p ≡ suc q =
      lined_once que tab T.start.lined (suc v.p) (suc q) (omega arith) (omega (arith, within)) (omega arith) within
      (sym (from_at tab que q p.0 (omega (arith, within)) v) ∙ p.3 ∙ here) in
      omega arith

  module _ {k : ℕ} (of : k ≡ at (row a NAME) i) where
    k_is : at tab i ≡ k
    k_is = sym (name-at i turn_place.0 (omega (arith, turn_place.1))) ∙ sym of

    pub turn-named : (1 ≤ k) × (k ≤ 1000)
    turn-named =
        (omega (arith, K.least.low i turn_place.0 i_in, k_is), omega (arith, K.least.high i turn_place.0 i_in, k_is, turn_place.1, K.few))

    pub turn_end : at (row a TAIL) k < 1000
    turn_end = tail_few K M.parted turn-named.0 turn-named.1

    -- ---- a position alone in its group

    pub turn_skip : at (row a TAIL) k ≡ 0 → at (row a SIZE) k ≤ 1 → Moving n m w o a (suc q) h g
    turn_skip z l =
        let alone = size-paired K M.parted turn-named.0 turn-named.1 i turn_place.0 i_in k_is z ∙ le-ltb 1 (at (row a SIZE) k) l in
        record { done = T.more; moved = rw (leaving_stay tab que q (rw here at alone)) M }

    -- ---- one that leaves a group is the next place of the queue

    module _ (e : paired tab i ≡ true) where
      next : Next tab (leaving tab que) s i k
      next = let f = rw here at e in record { more = leaving-inside tab que q f within; is = leaving-at tab que q f within ∙ sym here; of = k_is }

      moving_on : {b : List (List ℕ)} {h' g' : ℕ} → MovedTo tab (leaving tab que) n w (suc s) h' g' o b → Moving n m w o b (suc q) h' g'
      moving_on W = record { done = T.more; moved = rw (leaving_grow tab que q (rw here at e)) W }

    -- ---- the first of its group

    module _ (z : at (row a TAIL) k ≡ 0) (l : 1 < at (row a SIZE) k) where
      first : paired tab i ≡ true
      first = size-paired K M.parted turn-named.0 turn-named.1 i turn_place.0 i_in k_is z ∙ lt-ltb 1 (at (row a SIZE) k) l

      pub first_asks : Leavable a k i
      first_asks = move_asks K M (next first)

      pub turn-first : {b : List (List ℕ)} (r : ℕ) → r ≡ at (row a SIZE) k → Gone w (put_at (put_at (put_at (put_at a TOUCHED (g + 1) k) REST k k) TAIL k i) SIZE k (r - 1)) b k i
          → Moving n m w o (begun_at b (h + 1) k i) (suc q) (h + 1) (g + 1)
      turn-first r size G = rw (add-one h, add-one g) (moving_on first (moved-first K M (next first) r z size (rw (add-one g) at G)))

    -- ---- a later one

    module _ (l : 1 ≤ at (row a TAIL) k) where
      later : paired tab i ≡ true
      later = tail_paired K M.parted turn-named.0 turn-named.1 l i turn_place.0 i_in k_is fresh

      pub later_asks : Leavable a k i
      later_asks = move_asks K M (next later)

      pub later_some : 1 ≤ at (row a SIZE) k
      later_some = size-some K M.long M.parted (next later)

      -- b are the rows once it is out of its group, and j the one that moved before it
      module _ {b : List (List ℕ)} (j r : ℕ) (last : j ≡ at (row a TAIL) k) (size : r ≡ at (row a SIZE) k) (G : Gone w (put_at (put_at a TAIL k i) SIZE k (r - 1)) b k i) where
        right : (v : ℕ) → suc v ≤ n → at (row b NAME) (v + 1) ≡ at tab (suc v)
        unfolding among
        right v d =
            rw (add-one v)
            (ap (λ (x : List ℕ). at x (suc v)) (out_row a (r - 1) M.long (only_none (REST ∷ TOUCHED ∷ []) a) G NAME refl refl) ∙ name-at (suc v) (omega arith) d)

        j_in : suc (at (row a TAIL) k) ≤ n
        j_in = omega (arith, tail_end K M.parted turn-named.0 turn-named.1 l, K.long)

        right_last : at (row b NAME) (j + 1) ≡ at tab (suc (at (row a TAIL) k))
        right_last = rw last (right (at (row a TAIL) k) j_in)

        pub turn_begin : at (row b NAME) (j + 1) ≢ at (row b NAME) (i + 1) → Moving n m w o (begun_at b (h + 1) k i) (suc q) (h + 1) g
        turn_begin ne = rw (add-one h) (moving_on later (moved_begin K M (next later) r l size G (λ e. ne (right_last ∙ e ∙ sym (right i turn_place.1)))))

        module _ (e : at (row b NAME) (j + 1) ≡ at (row b NAME) (i + 1)) where
          same : at tab (suc (at (row a TAIL) k)) ≡ at tab (suc i)
          same = sym right_last ∙ e ∙ right i turn_place.1

          pub turn_asks : Joinable b k j i
          turn_asks = rw last (join_asks K M (next later) r l size G same)

          pub turn_join : {d : List (List ℕ)} → Changed w (counted_at b k j i) d j (i - j) → Moving n m w o d (suc q) h g
          turn_join D = moving_on later (moved_join K M (next later) r l size G same (rw last at D))
