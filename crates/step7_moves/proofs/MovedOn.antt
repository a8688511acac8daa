-- One more position of S has moved: the links by the codes, the parts, and the least positions left. Assumes nothing.
use Prim.Native.Nat.{ℕ, suc, ◌+◌, ◌-◌, ◌≤◌, ◌<◌}
use mathlib.Core.Path.{◌≡◌, refl, sym, ap, ◌∙◌}
use mathlib.Core.Logic.{⊎_elim, ◌≢◌, by_cases}
use mathlib.Core.List.{List, [], ◌∷◌}
use native.Mathlib.Decide.{ℕ_discrete}
use native.Mathlib.Omega.{arith}
use lib.ListN.{length}
use borrow.Author.Tests.{lt-ltb, le-ltb}
use Rattle.words.specs.Reads.{at}
use Rattle.words.specs.Groups.{gap}
use Rattle.words.proofs.Tests.{lt_or_ge}
use Rattle.slots.specs.Slots.{put}
use Rattle.slots.proofs.Laws.{put_same, put_other}
use Rattle.step1_rows.specs.Rows.{row, put_at, Long, among, Only, SIZE, PREV, DIST, QUE, PART, TAIL, REST, MANY, TOUCHED}
use Rattle.step1_rows.proofs.Laws.{long-put, only_none, only-put, only_trans}
use Rattle.step3_lists.specs.Waits.{WaitingFor}
use Rattle.step3_lists.specs.Filed.{Changed}
use Rattle.step3_lists.proofs.Changing.{waiting_heads}
use Rattle.refine.specs.Refine.{next_of}
use Rattle.refine.specs.Links.{back}
use Rattle.refine.specs.Leaving.{Known}
use Rattle.refine.proofs.Moved.{next-name}
use Rattle.step6_leave.specs.Links.{joined}
use Rattle.step6_leave.specs.Gone.{Leavable, rest_after, Gone, begun_at, counted_at, Joinable}
use Rattle.step7_moves.specs.Relink.{codes, Place}
use Rattle.step7_moves.specs.Parted.{Next, Split, Listing, PartedTo, Stepped}
use Rattle.step7_moves.specs.Moving.{Lead, MovedTo}
use Rattle.step7_moves.proofs.OneMove.{gap-behind, gap_over, link-back, link-ahead, link-reach, prev_on, dist_on, linked_move}
use Rattle.step7_moves.proofs.Codes.{lead_other, lead_before, lead_next, codes-length, codes-rest, codes_place, lead_first}
use Rattle.step7_moves.proofs.Prior.{past_inside, Alone, next_low, next_high, group_low, group_high, group_most, next_other, alone-first, alone_begin, alone-back, tail_none, join_below, join_back}
use Rattle.step7_moves.proofs.Late.{late}
use Rattle.step7_moves.proofs.Parted.{part_place, many_few, tail_split, split_less, groups-first, groups_later, parted_begin, parted_join}
use Rattle.step7_moves.proofs.Stepped.{put_row, row_put, out_row, out_waits, begun_waits, counted_waits, stepped_begin, stepped_join}

module _ {t S : List ℕ} {n w s h g i k : ℕ} {o a : List (List ℕ)} (K : Known t S n) (M : MovedTo t S n w s h g o a) (X : Next t S s i k) where
  abbrev u : List ℕ
  u = next_of t S

  abbrev c : List ℕ
  c = codes t u S s

  c-long : length c ≡ n
  c-long = codes-length K s ∙ K.long

  c_few : length c ≤ 1000
  c_few = omega (arith, c-long, K.few)

  place : Place c i (1000 + at u i) (back u i)
  place = rw X.is at (codes_place K s X.more)

  -- what the move asks of the links
  pub move_asks : Leavable a k i
  move_asks =
      let b = link-back place M.links c_few in
      let d = link-ahead place M.links c_few in
      record {
        long = M.long;
        heads = waiting_heads a M.waits;
        named = (group_low K X, group_most K X);
        low = next_low K X;
        back = b;
        ahead = omega (arith, c_few);
        over = λ l. omega (arith, link-reach place M.links c_few l, c_few);
      }

  -- ---- who waits

  -- the codes once i has moved
  moved-codes : codes t u S (suc s) ≡ put c i (1000 + at u i)
  unfolding codes
  moved-codes = rw X.is refl

  -- no distance that they give is above the one at the next width
  later : (j : ℕ) → 1 ≤ j → 1 ≤ gap u j → gap (put c i (1000 + at u i)) j ≤ gap u j
  later j l m = rw moved-codes at (late K j l m (suc s) X.more)

  -- f is a, but for rows that do not matter, and i is out of its group
  gone_waits : {f b : List (List ℕ)} (r : ℕ) → Long f → Only (REST ∷ TOUCHED ∷ []) a f → Gone w (put_at (put_at f TAIL k i) SIZE k r) b k i → WaitingFor (suc w) (gap u) b
  gone_waits r L same G =
      out_waits a r L same G M.waits
      (λ l m.
      let p_is = M.links.last i place.low place.high in
      let at_p : at (row a DIST) (at (row a PREV) i) ≡ gap c (back c i) =
      ap (at (row a DIST)) p_is ∙ M.links.next (back c i) (omega (arith, p_is)) (omega (arith, p_is, link-back place M.links c_few, place.high)) in
      rw (at_p, M.links.next i place.low place.high, p_is, ← gap_over place (omega (arith, p_is))) (later (back c i) (omega (arith, p_is)) (rw p_is at m)))

  -- ---- the least positions left

  -- i has not moved
  own : at c i ≡ k
  own = codes-rest K s i M.parted.within (next_low K X) (next_other K X) ∙ X.of

  fresh : (j : ℕ) → j ≤ 1000 → 1000 + at u i ≢ j
  fresh j l e = omega (arith, (next-name t S K.least K.lined i place.low (omega (arith, next_high K X))).0)

  split-some : (j : ℕ) → Split t S s j → (1 ≤ j) × (j ≤ 1000)
  split-some j B =
      let w = past_inside K M.parted.within B.past in
      let low = K.least.low B.who w.0 (omega (arith, w.1)) in
      let high = K.least.high B.who w.0 (omega (arith, w.1)) in
      (omega (arith, B.of), omega (arith, B.of, w.1, K.few, K.long))

  module _ (rest : List ℕ) (long : length rest ≡ 1000) (lead : Lead c k (at rest k)) (others : (j : ℕ) → 1 ≤ j → j ≢ k → at rest j ≡ at (row a REST) j) where
    abbrev p : ℕ
    p = at (row a PREV) i

    abbrev d : ℕ
    d = at (row a DIST) i

    p_is : p ≡ back c i
    p_is = M.links.last i place.low place.high

    rest_here : Lead (put c i (1000 + at u i)) k (at (rest_after rest k i p d) k)
    unfolding rest_after
    rest_here =
        ⊎_elim
        (λ l. rw (lt-ltb 0 p l) (lead_before c i (1000 + at u i) k place.low place.high (fresh k (group_most K X)) lead own (omega (arith, p_is))))
        (λ l.
        rw (le-ltb 0 p l, put_same rest k (joined i d) (group_low K X) (omega (arith, group_most K X, long)), M.links.next i place.low place.high)
        (lead_next c i (1000 + at u i) k place.low place.high (fresh k (group_most K X)) own (omega (arith, p_is))))
        (lt_or_ge 0 p)

    rest_there : (j : ℕ) → 1 ≤ j → j ≢ k → at (rest_after rest k i p d) j ≡ at (row a REST) j
    unfolding rest_after
    rest_there j l ne =
        ⊎_elim
        (λ e. rw (lt-ltb 0 p e) (others j l ne))
        (λ e. rw (le-ltb 0 p e) (put_other rest k (joined i d) j (group_low K X) l ne ∙ others j l ne))
        (lt_or_ge 0 p)

    rests_on : (j : ℕ) → Split t S (suc s) j → Lead (codes t u S (suc s)) j (at (rest_after rest k i p d) j)
    unfolding codes
    rests_on j B =
        rw X.is
        (by_cases (ℕ_discrete j k)
        (λ e. rw e rest_here)
        (λ ne.
        let E = split_less K M.long M.parted X j B ne in
        let w = split-some j E in
        rw (rest_there j w.0 ne)
        (lead_other c i (1000 + at u i) j place.low place.high (fresh j w.1) (M.rests j E) (λ e. ne (sym e ∙ own)))))

    -- the rows after the move
    stepped_on : {b : List (List ℕ)} {j h' g' : ℕ} {part many que touched : List ℕ} → back u i ≡ j → Stepped a b k i j rest part many que touched → WaitingFor (suc w) (gap u) b
        → ((w : ℕ) → suc s < w → at que w ≡ at (row a QUE) w) → PartedTo t S (suc s) h' g' b → MovedTo t S n w (suc s) h' g' o b
    unfolding codes
    stepped_on e W waits ahead P =
        record {
          long = W.long;
          names = W.names ∙ M.names;
          waits = waits;
          links = rw (W.dist, W.prev, ← e, X.is) (linked_move place M.links c_few (M.long.each DIST (omega arith)) (M.long.each PREV (omega arith)));
          prev_beyond = rw (W.prev, ← e) (λ r l m. prev_on place M.links c_few r (omega (arith, c-long)) ∙ M.prev_beyond r l m);
          dist_beyond = rw (W.dist, ← e) (λ r l m. dist_on place M.links c_few r (omega (arith, c-long)) ∙ M.dist_beyond r l m);
          parted = P;
          ahead = rw W.queue (λ w l. ahead w l ∙ M.ahead w (omega arith));
          rests = rw W.rests rests_on;
        }

  -- i begins a part: f is a, but that REST and TOUCHED may have been set
  begun_on : {f b : List (List ℕ)} {g' : ℕ} (r : ℕ) → r ≡ at (row a SIZE) k → Long f → Only (REST ∷ TOUCHED ∷ []) a f → Gone w (put_at (put_at f TAIL k i) SIZE k (r - 1)) b k i → Alone t S s i k
      → Lead c k (at (row f REST) k) → ((j : ℕ) → 1 ≤ j → j ≢ k → at (row f REST) j ≡ at (row a REST) j) → Listing (Split t S (suc s)) (suc s) g' (row f TOUCHED)
      → MovedTo t S n w (suc s) (suc h) g' o (begun_at b (suc h) k i)
  begun_on {f} r size L same G A lead others E =
      let W = stepped_begin a (r - 1) L same G (rw size refl) (suc h) in
      stepped_on (row f REST) (L.each REST (omega arith)) lead others (alone-back K X A) W (begun_waits a (r - 1) L same G (suc h) (gone_waits (r - 1) L same G))
      (λ w l. put_other (row a QUE) (suc h) i w (omega arith) (omega arith) (omega (arith, M.parted.parts.few)))
      (parted_begin K M.long M.parted X A W E)

  -- ---- the first position of its group that moves

  abbrev met : List (List ℕ)
  met = put_at (put_at a TOUCHED (suc g) k) REST k k

  pub moved-first : {b : List (List ℕ)} (r : ℕ) → at (row a TAIL) k ≡ 0 → r ≡ at (row a SIZE) k → Gone w (put_at (put_at met TAIL k i) SIZE k (r - 1)) b k i
      → MovedTo t S n w (suc s) (suc h) (suc g) o (begun_at b (suc h) k i)
  unfolding among
  moved-first r z size G =
      begun_on r size (long-put (put_at a TOUCHED (suc g) k) REST k k long)
      (only_trans (REST ∷ TOUCHED ∷ []) a (put_at a TOUCHED (suc g) k) met
      (only-put (REST ∷ TOUCHED ∷ []) a TOUCHED (suc g) k refl) (only-put (REST ∷ TOUCHED ∷ []) (put_at a TOUCHED (suc g) k) REST k k refl))
      G (alone-first K X (M.parted.tails k (group_low K X) (group_most K X)) z)
      (rw (met-row REST, put_same (row a REST) k k (group_low K X) (omega (arith, group_most K X, M.long.each REST (omega arith))))
      (lead_first K s k M.parted.within (group_low K X) (omega (arith, group_high K X, next_high K X))
      (rw X.of at (K.least.own i (next_low K X) (omega (arith, next_high K X))))
      (λ r l m. tail_none K M.parted.within (M.parted.tails k (group_low K X) (group_most K X)) z (at S r) (r, l, m, refl))))
      (λ j l ne. rw (met-row REST) (put_other (row a REST) k k j (group_low K X) l ne))
      (rw (met-row TOUCHED) (groups-first K M.long M.parted X))
    where
      long : Long (put_at a TOUCHED (suc g) k)
      long = long-put a TOUCHED (suc g) k M.long

      met-row : (w : ℕ) → row met w ≡ put_row w REST k k (put_row w TOUCHED (suc g) k (row a w))
      met-row w = rw (row_put (put_at a TOUCHED (suc g) k) REST k k w long (omega arith), row_put a TOUCHED (suc g) k w M.long (omega arith)) refl

  -- ---- a later one, j being the one before it

  module _ {b : List (List ℕ)} (r : ℕ) (l : 1 ≤ at (row a TAIL) k) (size : r ≡ at (row a SIZE) k) (G : Gone w (put_at (put_at a TAIL k i) SIZE k (r - 1)) b k i) where
    abbrev j : ℕ
    j = at (row a TAIL) k

    same_rows : Only (REST ∷ TOUCHED ∷ []) a a
    same_rows = only_none (REST ∷ TOUCHED ∷ []) a

    lead : Lead c k (at (row a REST) k)
    lead = M.rests k (tail_split K M.parted (group_low K X) (group_most K X) l)

    pub moved_begin : at t (suc j) ≢ at t (suc i) → MovedTo t S n w (suc s) (suc h) g o (begun_at b (suc h) k i)
    moved_begin ne =
        begun_on r size M.long same_rows G (alone_begin K X (M.parted.tails k (group_low K X) (group_most K X)) l ne) lead (λ j a d. refl)
        (groups_later K M.long M.parted X l)

    module _ (e : at t (suc j) ≡ at t (suc i)) where
      j_is : back u i ≡ j
      j_is = join_back K X (M.parted.tails k (group_low K X) (group_most K X)) l e

      pub join_asks : Joinable b k j i
      unfolding among
      join_asks =
          let below = join_below K X (M.parted.tails k (group_low K X) (group_most K X)) l e in
          let part = part_place K M.parted (group_low K X) (group_most K X) l in
          let out = out_row a (r - 1) M.long same_rows G in
          record {
            long = G.long;
            heads = waiting_heads b (gone_waits (r - 1) M.long same_rows G);
            named = (group_low K X, group_most K X);
            low = l;
            behind = below;
            high = omega (arith, next_high K X, K.few, K.long);
            part = rw (out PART refl refl) (part.0, omega (arith, part.1, next_high K X, K.few, K.long));
            many = rw (out PART refl refl, out MANY refl refl) (omega (arith, many_few K M.parted (group_low K X) (group_most K X) l));
          }

      pub moved_join : {d : List (List ℕ)} → Changed w (counted_at b k j i) d j (i - j) → MovedTo t S n w (suc s) h g o d
      moved_join R =
          let W = stepped_join a (r - 1) M.long same_rows G (rw size refl) l R in
          let waits =
          R.waits (gap u) (counted_waits a (r - 1) M.long same_rows G j (gone_waits (r - 1) M.long same_rows G))
          (λ a m. rw (← ap (λ (v : ℕ). i - v) j_is, ← gap-behind place (omega (arith, j_is)), j_is) (later j l m)) in
          stepped_on (row a REST) (M.long.each REST (omega arith)) lead (λ j a d. refl) j_is W waits (λ w m. refl) (parted_join K M.long M.parted X l e W)
