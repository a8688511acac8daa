-- The position before one in its new group, from the queue: the tail of its old group, if that moved under the same name, for the queue goes by
-- that name and then by position; and a position with none before it names its new group. Assumes nothing.
use Prim.Native.Nat.{ℕ, suc, ◌≤◌, ◌<◌}
use mathlib.Core.Path.{◌≡◌, sym, ap, ◌∙◌}
use mathlib.Core.Logic.{◌⊎◌, ⊎_elim, ◌≢◌}
use mathlib.Core.Bool.{true}
use mathlib.Core.List.{List}
use native.Mathlib.Nat.{eq-or-lt_of_le}
use native.Mathlib.Omega.{arith}
use lib.ListN.{length}
use Rattle.words.specs.Reads.{at}
use Rattle.words.proofs.Tests.{lt_or_ge}
use Rattle.refine.specs.Refine.{has, next_of}
use Rattle.refine.specs.Links.{back}
use Rattle.refine.specs.Leaving.{Known}
use Rattle.refine.proofs.Queues.{has_is, is_has, lined-before, lined_rises}
use Rattle.refine.proofs.Links.{before_back}
use Rattle.refine.proofs.Moved.{next-moved, moved_same, next-name}
use Rattle.step7_moves.specs.Relink.{Past}
use Rattle.step7_moves.specs.Parted.{Next, Tail}

-- a position of the first places is one of the table, with a right neighbour
pub past_inside : {t S : List ℕ} {n s j : ℕ} → Known t S n → s ≤ length S → Past S s j → (1 ≤ j) × (suc j ≤ length t)
past_inside K b p = let w = K.lined.inside p.0 p.1 (omega (arith, p.2)) in rw p.3 at w

pub past_has : (S : List ℕ) (s j : ℕ) → s ≤ length S → Past S s j → has S j ≡ true
past_has S s j b p = rw p.3 at (is_has S p.0 p.1 (omega (arith, p.2)))

-- the queue goes by position where the names to the right are the same: what lies before a position that has moved moved before it
pub past_before : {t S : List ℕ} {n s j k : ℕ} (q : ℕ) → Known t S n → s ≤ length S → (p : Past S s k) → p.0 ≤ suc q → has S j ≡ true → j < k → at t (suc j) ≡ at t (suc k) → Past S q j
past_before {t} {S} {j = j} q K b p l h m e =
    let r = has_is S j h in
    let same : at t (suc (at S r.0)) ≡ at t (suc (at S p.0)) = rw (r.3, p.3) e in
    let before = lined-before S t K.lined r.0 p.0 r.1 r.2 p.1 (omega (arith, p.2)) same (omega (arith, r.3, p.3)) in
    (r.0, r.1, omega (arith, before), r.3)

-- none of the first s places left the group k as i does
pub record Alone (t S : List ℕ) (s i k : ℕ) : Type 0 where
  pub free : (j : ℕ) → Past S s j → at t j ≡ k → at t (suc j) ≢ at t (suc i)

-- ---- the next position, and those before it in the queue

module _ {t S : List ℕ} {n s i k : ℕ} (K : Known t S n) (N : Next t S s i k) where
  abbrev u : List ℕ
  u = next_of t S

  abbrev pub next_past : Past S (suc s) i
  next_past = (suc s, omega arith, omega arith, N.is)

  pub next_low : 1 ≤ i
  next_low = (past_inside K N.more next_past).0

  pub next_high : suc i ≤ length t
  next_high = (past_inside K N.more next_past).1

  pub next-has : has S i ≡ true
  next-has = past_has S (suc s) i N.more next_past

  pub group_low : 1 ≤ k
  group_low = omega (arith, K.least.low i next_low (omega (arith, next_high)), N.of)

  pub group_high : k ≤ i
  group_high = omega (arith, K.least.high i next_low (omega (arith, next_high)), N.of)

  pub group_most : k ≤ 1000
  group_most = omega (arith, group_high, next_high, K.few, K.long)

  pub past_less : {j : ℕ} → Past S (suc s) j → j ≢ i → Past S s j
  past_less p ne = ⊎_elim (λ (z : p.0 ≡ suc s). absurd (ne (sym p.3 ∙ ap (at S) z ∙ N.is))) (λ l. (p.0, p.1, omega arith, p.3)) (eq-or-lt_of_le p.2)

  -- an earlier one moves under a lesser name, or under the same name and is a lesser position
  pub next_rises : (j : ℕ) → Past S s j → (at t (suc j) < at t (suc i)) ⊎ ((at t (suc j) ≡ at t (suc i)) × (j < i))
  next_rises j p = rw (N.is, p.3) at (K.lined.rises p.0 (suc s) p.1 (omega (arith, p.2)) N.more)

  pub next_other : Past S s i → ⊥
  next_other p = ⊎_elim (λ h. omega arith) (λ h. omega (arith, h.1)) (next_rises i p)

  -- a position of the new group of i moves from the same group and under the same name
  alike : (p : ℕ) → 1 ≤ p → p ≤ length t → at u p ≡ at u i → (has S p ≡ true) × (at t p ≡ at t i) × (at t (suc p) ≡ at t (suc i))
  alike p a b e = next-moved t S K.least K.lined i p next_low (omega (arith, next_high)) a b next-has e

  -- a lesser one has moved before
  next_earlier : (p : ℕ) → 1 ≤ p → p < i → at u p ≡ at u i → Past S s p × (at t p ≡ k) × (at t (suc p) ≡ at t (suc i))
  next_earlier p a l e =
      let m = alike p a (omega (arith, next_high)) e in
      (past_before s K N.more next_past (omega arith) m.0 l m.2, m.1 ∙ N.of, m.2)

  -- ---- a position that begins a part

  module _ (A : Alone t S s i k) where
    alone-least : (p : ℕ) → 1 ≤ p → p < i → at u p ≢ at u i
    alone-least p a l e = let w = next_earlier p a l e in A.free p w.0 w.1 w.2

    pub alone-back : back u i ≡ 0
    alone-back = before_back u i 0 next_low (record { low = next_low; same = λ l. absurd (omega arith); free = alone-least })

    pub alone-name : at u i ≡ i
    alone-name =
        let m = next-name t S K.least K.lined i next_low (omega (arith, next_high)) in
        ⊎_elim (λ h. absurd (alone-least (at u i) m.0 h m.2)) (λ h. omega (arith, m.1)) (lt_or_ge (at u i) i)

    -- none has moved to that part before
    pub alone-part : (j : ℕ) → Past S s j → at u j ≢ i
    alone-part j p e =
        let w = past_inside K (omega (arith, N.more)) p in
        let m = alike j w.0 (omega (arith, w.1)) (e ∙ sym alone-name) in
        A.free j p (m.1 ∙ N.of) m.2

-- ---- the tail of a group

module _ {t S : List ℕ} {n s k j : ℕ} (K : Known t S n) (b : s ≤ length S) (T : Tail t S s k j) where
  tail_some : 1 ≤ j → 1 ≤ T.place
  tail_some l = ⊎_elim (λ h. h) (λ h. absurd (omega (arith, T.none (omega arith)))) (lt_or_ge 0 T.place)

  pub tail_past : 1 ≤ j → Past S s j × (at t j ≡ k)
  tail_past l = let p = tail_some l in ((T.place, p, T.within, (T.some p).0), (T.some p).1)

  -- without a tail none has moved
  pub tail_none : j ≡ 0 → (i : ℕ) → Past S s i → at t i ≢ k
  tail_none z i p e =
      ⊎_elim
      (λ l. omega (arith, (past_inside K b (T.place, l, T.within, (T.some l).0)).0))
      (λ l. T.free p.0 (omega (arith, p.1)) p.2 (ap (at t) p.3 ∙ e))
      (lt_or_ge 0 T.place)

module _ {t S : List ℕ} {n s i k j : ℕ} (K : Known t S n) (N : Next t S s i k) (T : Tail t S s k j) where
  b : s ≤ length S
  b = omega (arith, N.more)

  -- no position of its group has moved
  pub alone-first : j ≡ 0 → Alone t S s i k
  alone-first z = record { free = λ q p e. absurd (tail_none K b T z q p e) }

  module _ (l : 1 ≤ j) where
    some : 1 ≤ T.place
    some = tail_some K b T l

    -- a place of the same group and name as i is not behind the tail, and the names never fall
    last_name : (q : ℕ) → Past S s q → at t q ≡ k → at t (suc q) ≡ at t (suc i) → at t (suc j) ≡ at t (suc i)
    last_name q p e f =
        let h : p.0 ≤ T.place = ⊎_elim (λ h. absurd (T.free p.0 h p.2 (ap (at t) p.3 ∙ e))) (λ h. h) (lt_or_ge T.place p.0) in
        let low = rw (p.3, (T.some some).0) at (lined_rises t S K.lined p.0 T.place p.1 h (omega (arith, T.within))) in
        let high = rw ((T.some some).0, N.is) at (lined_rises t S K.lined T.place (suc s) some (omega (arith, T.within)) N.more) in
        omega (arith, low, high)

    -- the last that did moved under another name
    pub alone_begin : at t (suc j) ≢ at t (suc i) → Alone t S s i k
    alone_begin ne = record { free = λ q p e f. ne (last_name q p e f) }

    -- ---- a position that joins the part of its group's tail

    module _ (e : at t (suc j) ≡ at t (suc i)) where
      w : Past S s j × (at t j ≡ k)
      w = tail_past K b T l

      pub join_below : j < i
      join_below = ⊎_elim (λ h. absurd (omega arith)) (λ h. h.1) (next_rises K N j w.0)

      pub join_name : at (next_of t S) i ≡ at (next_of t S) j
      join_name =
          moved_same t S K.least K.lined i j (next_low K N) (omega (arith, next_high K N)) l (omega (arith, join_below, next_high K N)) (next-has K N)
          (past_has S s j b w.0) (N.of ∙ sym w.1) (sym e)

      pub join_back : back (next_of t S) i ≡ j
      join_back =
          before_back (next_of t S) i j (next_low K N)
          (record {
            low = join_below;
            same = λ a. sym join_name;
            free = λ q a c f.
                let v = next_earlier K N q (omega arith) c f in
                let p = v.0 in
                let late = lined-before S t K.lined T.place p.0 some (omega (arith, T.within)) p.1 (omega (arith, p.2)) (rw ((T.some some).0, p.3) (e ∙ sym v.2)) (omega (arith, (T.some some).0, p.3)) in
                T.free p.0 late p.2 (ap (at t) p.3 ∙ v.1);
          })
