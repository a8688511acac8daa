-- The rows of the parts, turn by turn: what a turn reads is in bounds, and they hold after one place more, in the two cases of a move. Assumes nothing.
use Prim.Native.Nat.{ℕ, zero, suc, ◌+◌, ◌-◌, ◌≤◌, ◌<◌}
use mathlib.Core.Path.{◌≡◌, refl, sym, ap, ◌∙◌}
use mathlib.Core.Logic.{⊎_elim, by_cases, ◌≢◌}
use mathlib.Core.Bool.{true, ◌&&◌}
use mathlib.Core.List.{List}
use native.Mathlib.Decide.{ℕ_discrete}
use native.Mathlib.Nat.{eq-or-lt_of_le}
use native.Mathlib.Omega.{arith}
use lib.ListN.{length}
use lib.Dec.{ltb, eqb}
use borrow.Author.Tests.{eqb-true, eq-eqb, ne_eqb}
use Rattle.words.specs.Range.{sum, bit, count}
use Rattle.words.specs.Reads.{at}
use Rattle.words.specs.Groups.{size}
use Rattle.words.proofs.Tests.{lt_or_ge, same_test, and_right, and_both}
use Rattle.words.proofs.Sums.{sum_more, sum_const, count_same, count_le, count_none}
use Rattle.slots.specs.Slots.{put}
use Rattle.slots.proofs.Laws.{put_same, put_other}
use Rattle.step1_rows.specs.Rows.{row, Long, SIZE, QUE, PART, TAIL, MANY, TOUCHED}
use Rattle.refine.specs.Refine.{has, Lined, next_of, stayers}
use Rattle.refine.specs.Leaving.{Known, paired}
use Rattle.refine.proofs.Queues.{has-inside}
use Rattle.refine.proofs.Next.{next-length}
use Rattle.refine.proofs.Moved.{next-moved, next-name}
use Rattle.refine.proofs.Leaving.{shared_paired}
use Rattle.refine.proofs.Count.{count-places, stayers-places}
use Rattle.step7_moves.specs.Relink.{Past}
use Rattle.step7_moves.specs.Parted.{Next, reached, Tail, Begun, Split, Listing, Unlike, PartedTo, Stepped}
use Rattle.step7_moves.proofs.Prior.{past_inside, Alone, next_past, next_low, next_high, group_low, group_high, group_most, past_less, next_other, alone-name, alone-part, tail_past, tail_none, join_below, join_name}

-- ---- how many of the first places have a name: one place more, none, and all

-- a queue is no longer than its table, since no position stands twice
lined_short : (t S : List ℕ) → Lined t S → length S ≤ length t
unfolding count
lined_short t S N = omega (arith, sum_const 1 (length S) 1, count-places t S N (λ i. true), count_le (λ i. has S i && true) (length t) 1)

module _ (t S : List ℕ) (k : ℕ) where
  reached_more : (s : ℕ) → reached t S (suc s) k ≡ reached t S s k + bit (eqb (at t (at S (suc s))) k)
  unfolding reached count
  reached_more s = let f : ℕ → ℕ = λ r. bit (eqb (at t (at S r)) k) in sum_more f s 1 ∙ ap (λ (r : ℕ). sum f s 1 + f r) (omega arith)

  reached_few : (s : ℕ) → reached t S s k ≤ s
  unfolding reached
  reached_few s = count_le (λ r. eqb (at t (at S r)) k) s 1

  reached_rises : (s r : ℕ) → s ≤ r → reached t S s k ≤ reached t S r k
  reached_rises s zero l = omega (arith, reached_few s)
  reached_rises s (suc r) l =
      ⊎_elim (λ (e : s ≡ suc r). omega (arith, ap (λ (v : ℕ). reached t S v k) e)) (λ m. omega (arith, reached_rises s r (omega arith), reached_more r)) (eq-or-lt_of_le l)

  pub reached-none : (s : ℕ) → ((j : ℕ) → Past S s j → at t j ≢ k) → reached t S s k ≡ 0
  unfolding reached
  reached-none s free = count_none (λ r. eqb (at t (at S r)) k) s 1 (λ r a b. ne_eqb (at t (at S r)) k (free (at S r) (r, a, omega arith, refl)))

  pub reached-all : Lined t S → stayers t S k + reached t S (length S) k ≡ size t k
  unfolding reached
  reached-all N = stayers-places t S N k

-- a part that moves has as many positions as places get its name
pub reached-part : {t S : List ℕ} {n : ℕ} → Known t S n → (c : ℕ) → has S c ≡ true → reached (next_of t S) S (length S) c ≡ size (next_of t S) c
unfolding reached size
reached-part {t} {S} K c h =
    count-places t S K.lined (λ i. eqb (at (next_of t S) i) c)
    ∙ count_same (λ i. has S i && eqb (at (next_of t S) i) c) (λ i. eqb (at (next_of t S) i) c) (length t) 1
    (λ i a b. same_test (has S i && eqb (at (next_of t S) i) c) (eqb (at (next_of t S) i) c)
    (and_right (has S i) (eqb (at (next_of t S) i) c))
    (λ e. and_both (has S i) (eqb (at (next_of t S) i) c) (moves i a (omega arith) (eqb-true (at (next_of t S) i) c e)) e))
    ∙ rw (next-length t S)
  where
    moves : (i : ℕ) → 1 ≤ i → i ≤ length t → at (next_of t S) i ≡ c → has S i ≡ true
    moves i a b e =
        let w = has-inside S t K.lined c h in
        (next-moved t S K.least K.lined c i w.0 (omega (arith, w.1)) a b h (sym (next-name t S K.least K.lined i a b).2 ∙ ap (at (next_of t S)) e)).0

-- ---- lists of names, after one place more

module _ {P Q : ℕ → Type 0} {s h : ℕ} {l : List ℕ} (H : Listing P s h l) (more : (c : ℕ) → P c → Q c) where
  list_same : ((c : ℕ) → Q c → P c) → Listing Q (suc s) h l
  list_same less = record { few = omega (arith, H.few); some = λ j a b. more (at l j) (H.some j a b); all = λ c q. H.all c (less c q) }

  list_more : (v : ℕ) → suc h ≤ length l → Q v → ((c : ℕ) → Q c → c ≢ v → P c) → Listing Q (suc s) (suc h) (put l (suc h) v)
  list_more v long q less =
      let newest = put_same l (suc h) v (omega arith) long in
      record {
        few = omega (arith, H.few);
        some = λ j a b.
            ⊎_elim
            (λ (z : j ≡ suc h). rw (z, newest) q)
            (λ m. rw (put_other l (suc h) v j (omega arith) a (omega arith)) (more (at l j) (H.some j a (omega arith))))
            (eq-or-lt_of_le b);
        all = λ c p.
            by_cases (ℕ_discrete c v)
            (λ e. (suc h, omega arith, omega arith, newest ∙ sym e))
            (λ ne.
            let w = H.all c (less c p ne) in
            let low = w.1 in
            let high = w.2 in
            (w.0, low, omega arith, put_other l (suc h) v w.0 (omega arith) low (omega arith) ∙ w.3));
      }

unlike_more : {h v : ℕ} {l : List ℕ} → Unlike h l → suc h ≤ length l → ((j : ℕ) → 1 ≤ j → j ≤ h → at l j ≢ v) → Unlike (suc h) (put l (suc h) v)
unlike_more {h} {v} {l} U long new =
    record {
      once = λ j r a b c d e.
          ⊎_elim
          (λ (y : j ≡ suc h). ⊎_elim (λ (z : r ≡ suc h). y ∙ sym z) (λ m. absurd (apart r c (omega arith) (sym e ∙ ap (at (put l (suc h) v)) y))) (eq-or-lt_of_le d))
          (λ n.
          ⊎_elim
          (λ (z : r ≡ suc h). absurd (apart j a (omega arith) (e ∙ ap (at (put l (suc h) v)) z)))
          (λ m. U.once j r a (omega arith) c (omega arith) (sym (older j a (omega arith)) ∙ e ∙ older r c (omega arith)))
          (eq-or-lt_of_le d))
          (eq-or-lt_of_le b);
    }
  where
    older : (j : ℕ) → 1 ≤ j → j ≤ h → at (put l (suc h) v) j ≡ at l j
    older j a b = put_other l (suc h) v j (omega arith) a (omega arith)

    apart : (j : ℕ) → 1 ≤ j → j ≤ h → at (put l (suc h) v) j ≢ at (put l (suc h) v) (suc h)
    apart j a b e = new j a b (sym (older j a b) ∙ e ∙ put_same l (suc h) v (omega arith) long)

-- ---- what a turn reads

module _ {t S : List ℕ} {n s h g : ℕ} {a : List (List ℕ)} (K : Known t S n) (M : PartedTo t S s h g a) where
  pub parted_few : s ≤ 1000
  parted_few = omega (arith, M.within, lined_short t S K.lined, K.few, K.long)

  module _ {k : ℕ} (b : 1 ≤ k) (d : k ≤ 1000) where
    abbrev j : ℕ
    j = at (row a TAIL) k

    -- a group without a tail is whole
    sizes_whole : k ≤ length t → j ≡ 0 → at (row a SIZE) k ≡ size t k
    sizes_whole c z = omega (arith, M.left k b c, reached-none t S k s (tail_none K M.within (M.tails k b d) z))

    module _ (l : 1 ≤ j) where
      past : Past S s j × (at t j ≡ k)
      past = tail_past K M.within (M.tails k b d) l

      pub tail_end : suc j ≤ length t
      tail_end = (past_inside K M.within past.0).1

      pub tail_split : Split t S s k
      tail_split = record { who = j; past = past.0; of = past.1 }

      pub part_place : (1 ≤ at (row a PART) k) × (at (row a PART) k ≤ j)
      part_place = let m = next-name t S K.least K.lined j l (omega (arith, tail_end)) in rw (M.joined k b d l) (m.0, m.1)

      pub part-many : at (row a MANY) (at (row a PART) k) ≡ reached (next_of t S) S s (at (row a PART) k)
      part-many = rw (M.joined k b d l) (M.counted j past.0)

      pub many_few : at (row a MANY) (at (row a PART) k) ≤ 1000
      many_few = omega (arith, part-many, reached_few (next_of t S) S (at (row a PART) k) s, parted_few)

      -- a position of the group that has not moved is not alone
      pub tail_paired : (i : ℕ) → 1 ≤ i → i ≤ length t → at t i ≡ k → (Past S s i → ⊥) → paired t i ≡ true
      unfolding paired
      tail_paired i low high of free =
          let same : at t i ≡ at t j = of ∙ sym past.1 in
          ⊎_elim
          (λ m. shared_paired t S i j l m high (sym same))
          (λ m.
          ⊎_elim
          (λ (e : i ≡ j). absurd (free (rw e past.0)))
          (λ o. ap (λ (v : ℕ). ltb 1 (size t v)) same ∙ shared_paired t S j i low o (omega (arith, tail_end)) same)
          (eq-or-lt_of_le m))
          (lt_or_ge j i)

    pub tail_few : j < 1000
    tail_few = ⊎_elim (λ l. omega (arith, tail_end l, K.few, K.long)) (λ l. omega arith) (lt_or_ge 0 j)

    -- and if nothing has moved, its size tells
    pub size-paired : (i : ℕ) → 1 ≤ i → i ≤ length t → at t i ≡ k → j ≡ 0 → paired t i ≡ ltb 1 (at (row a SIZE) k)
    unfolding paired
    size-paired i low high of z = rw (of, sizes_whole (omega (arith, K.least.high i low high)) z)

-- ---- one place more

module _ {t S : List ℕ} {n s h g i k : ℕ} {a : List (List ℕ)} (K : Known t S n) (L : Long a) (M : PartedTo t S s h g a) (N : Next t S s i k) where
  abbrev u : List ℕ
  u = next_of t S

  here : (r j v : ℕ) → r < 12 → 1 ≤ j → j ≤ 1000 → at (put (row a r) j v) j ≡ v
  here r j v b low high = put_same (row a r) j v low (omega (arith, L.each r b))

  room : suc s ≤ 1000
  room = omega (arith, N.more, lined_short t S K.lined, K.few, K.long)

  k_in : k ≤ length t
  k_in = omega (arith, group_high K N, next_high K N)

  -- i has not left its group yet
  pub size-some : 1 ≤ at (row a SIZE) k
  size-some =
      let one : reached t S (suc s) k ≡ reached t S s k + 1 = reached_more t S k s ∙ rw (N.is, N.of, eq-eqb k k refl) in
      omega (arith, one, reached_rises t S k (suc s) (length S) N.more, reached-all t S k K.lined, M.left k (group_low K N) k_in)

  tails_next : (j : ℕ) → 1 ≤ j → j ≤ 1000 → Tail t S (suc s) j (at (put (row a TAIL) k i) j)
  tails_next j b d =
      by_cases (ℕ_discrete j k)
      (λ e.
      rw (e, here TAIL k i (omega arith) (group_low K N) (group_most K N))
      (record { place = suc s; within = omega arith; free = λ r c d. absurd (omega arith); none = λ c. absurd (omega arith); some = λ c. (N.is, N.of) }))
      (λ ne.
      let T = M.tails j b d in
      rw (put_other (row a TAIL) k i j (group_low K N) b ne)
      (record {
        place = T.place;
        within = omega (arith, T.within);
        free = λ r c d f. ⊎_elim (λ (z : r ≡ suc s). ne (sym f ∙ rw (z, N.is) N.of)) (λ m. T.free r c (omega arith) f) (eq-or-lt_of_le d);
        none = T.none;
        some = T.some;
      }))

  left-next : (j : ℕ) → 1 ≤ j → j ≤ length t → at (put (row a SIZE) k (at (row a SIZE) k - 1)) j + reached t S (suc s) j ≡ size t j
  left-next j b d =
      by_cases (ℕ_discrete j k)
      (λ e.
      rw (e, here SIZE k (at (row a SIZE) k - 1) (omega arith) (group_low K N) (group_most K N), reached_more t S k s, N.is, N.of, eq-eqb k k refl)
      (omega (arith, M.left k (group_low K N) k_in, size-some)))
      (λ ne.
      rw (put_other (row a SIZE) k (at (row a SIZE) k - 1) j (group_low K N) b ne, reached_more t S j s, N.is, N.of, ne_eqb k j (λ e. ne (sym e)))
      (omega (arith, M.left j b d)))

  -- the part of the group k is now that of i
  joined-next : (part : List ℕ) → at part k ≡ at u i → ((j : ℕ) → 1 ≤ j → j ≢ k → at part j ≡ at (row a PART) j)
      → (j : ℕ) → 1 ≤ j → j ≤ 1000 → 1 ≤ at (put (row a TAIL) k i) j → at part j ≡ at u (at (put (row a TAIL) k i) j)
  joined-next part own other j b d some =
      by_cases (ℕ_discrete j k)
      (λ e. rw (e, here TAIL k i (omega arith) (group_low K N) (group_most K N)) own)
      (λ ne.
      let old = put_other (row a TAIL) k i j (group_low K N) b ne in
      rw old (other j b ne ∙ M.joined j b d (rw old at some)))

  -- and has one position more
  counted_next : (y z : ℕ) → at u i ≡ y → z ≡ reached u S s y + 1 → (j : ℕ) → Past S (suc s) j → at (put (row a MANY) y z) (at u j) ≡ reached u S (suc s) (at u j)
  counted_next y z e f j p =
      let w = past_inside K N.more p in
      let m = next-name t S K.least K.lined i (next_low K N) (omega (arith, next_high K N)) in
      let low : 1 ≤ y = rw e at m.0 in
      let high : y ≤ 1000 = omega (arith, e, m.1, next_high K N, K.few, K.long) in
      by_cases (ℕ_discrete (at u j) y)
      (λ q. rw (q, here MANY y z (omega arith) low high, reached_more u S y s, N.is, e, eq-eqb y y refl) f)
      (λ ne.
      rw (put_other (row a MANY) y z (at u j) low (next-name t S K.least K.lined j w.0 (omega (arith, w.1))).0 ne, reached_more u S (at u j) s, N.is, e, ne_eqb y (at u j) (λ q. ne (sym q)))
      (omega (arith, M.counted j (past_less K N p (λ q. ne (rw q e))))))

  -- i is in the part y, which now has z positions
  parted_next : {b : List (List ℕ)} {j y z h' g' : ℕ} {rest part que touched : List ℕ} → Stepped a b k i j rest part (put (row a MANY) y z) que touched → at u i ≡ y → z ≡ reached u S s y + 1
      → at part k ≡ y → ((j : ℕ) → 1 ≤ j → j ≢ k → at part j ≡ at (row a PART) j) → Listing (Begun t S (suc s)) (suc s) h' que → Unlike h' que → Listing (Split t S (suc s)) (suc s) g' touched
      → PartedTo t S (suc s) h' g' b
  parted_next {y = y} {z = z} {part = part} W e f own other P U G =
      record {
        within = N.more;
        tails = rw W.tails tails_next;
        left = rw W.sizes left-next;
        beyond = rw W.sizes (λ j b d. put_other (row a SIZE) k (at (row a SIZE) k - 1) j (group_low K N) (omega arith) (omega (arith, k_in)) ∙ M.beyond j b d);
        joined = rw (W.tails, W.parts) (joined-next part (own ∙ sym e) other);
        counted = rw W.counts (counted_next y z e f);
        parts = rw W.queue P;
        unlike = rw W.queue U;
        groups = rw W.groups G;
      }

  past_more : {j : ℕ} → Past S s j → Past S (suc s) j
  past_more p = (p.0, p.1, omega (arith, p.2), p.3)

  begun_more : (c : ℕ) → Begun t S s c → Begun t S (suc s) c
  begun_more c B = record { past = past_more B.past; named = B.named }

  split_more : (c : ℕ) → Split t S s c → Split t S (suc s) c
  split_more c B = record { who = B.who; past = past_more B.past; of = B.of }

  pub split_less : (c : ℕ) → Split t S (suc s) c → c ≢ k → Split t S s c
  split_less c B ne = record { who = B.who; past = past_less K N B.past (λ e. ne (sym B.of ∙ rw e N.of)); of = B.of }

  pub groups-first : Listing (Split t S (suc s)) (suc s) (suc g) (put (row a TOUCHED) (suc g) k)
  groups-first =
      list_more M.groups split_more k (omega (arith, M.groups.few, room, L.each TOUCHED (omega arith))) (record { who = i; past = next_past K N; of = N.of }) split_less

  pub groups_later : 1 ≤ at (row a TAIL) k → Listing (Split t S (suc s)) (suc s) g (row a TOUCHED)
  groups_later l =
      let here = tail_split K M (group_low K N) (group_most K N) l in
      list_same M.groups split_more (λ c B. by_cases (ℕ_discrete c k) (λ e. rw e here) (λ ne. split_less c B ne))

  pub parted_begin : {b : List (List ℕ)} {g' : ℕ} {rest touched : List ℕ} → Alone t S s i k
      → Stepped a b k i 0 rest (put (row a PART) k i) (put (row a MANY) i 1) (put (row a QUE) (suc h) i) touched → Listing (Split t S (suc s)) (suc s) g' touched
      → PartedTo t S (suc s) (suc h) g' b
  parted_begin A W G =
      let own = alone-name K N A in
      let long : suc h ≤ length (row a QUE) = omega (arith, M.parts.few, room, L.each QUE (omega arith)) in
      parted_next W own (omega (arith, reached-none u S i s (alone-part K N A))) (here PART k i (omega arith) (group_low K N) (group_most K N))
      (λ j b ne. put_other (row a PART) k i j (group_low K N) b ne)
      (list_more M.parts begun_more i long (record { past = next_past K N; named = own }) (λ c B ne. record { past = past_less K N B.past ne; named = B.named }))
      (unlike_more M.unlike long (λ j b d e. next_other K N (rw e at (M.parts.some j b d).past))) G

  pub parted_join : {b : List (List ℕ)} {rest : List ℕ} (l : 1 ≤ at (row a TAIL) k) → at t (suc (at (row a TAIL) k)) ≡ at t (suc i)
      → Stepped a b k i (at (row a TAIL) k) rest (row a PART) (put (row a MANY) (at (row a PART) k) (at (row a MANY) (at (row a PART) k) + 1)) (row a QUE) (row a TOUCHED)
      → PartedTo t S (suc s) h g b
  parted_join l e W =
      let T = M.tails k (group_low K N) (group_most K N) in
      let name : at u i ≡ at (row a PART) k = join_name K N T l e ∙ sym (M.joined k (group_low K N) (group_most K N) l) in
      parted_next W name (ap (λ (v : ℕ). v + 1) (part-many K M (group_low K N) (group_most K N) l)) refl (λ j b ne. refl)
      (list_same M.parts begun_more (λ c B. record { past = past_less K N B.past (λ q. absurd (other T (rw q at B.named))); named = B.named })) M.unlike (groups_later l)
    where
      other : Tail t S s k (at (row a TAIL) k) → at u i ≢ i
      other T f = omega (arith, join_name K N T l e, M.joined k (group_low K N) (group_most K N) l, (part_place K M (group_low K N) (group_most K N) l).1, join_below K N T l e)
