-- Which positions have one name after a queue has moved: those that move from one group under one name, and what stays of one group.
-- Assumes nothing.
use Prim.Native.Nat.{ℕ, suc, ◌≤◌, ◌<◌}
use mathlib.Core.Path.{◌≡◌, sym, ap, ◌∙◌}
use mathlib.Core.Logic.{⊎_elim, ◌≢◌}
use mathlib.Core.Bool.{Bool, true, false, ◌&&◌, not}
use mathlib.Core.List.{List}
use native.Mathlib.Omega.{arith}
use lib.ListN.{length}
use lib.Dec.{leb, eqb}
use borrow.Author.Tests.{leb-true, le-leb, eqb-true, eq-eqb, ne_eqb, not-true}
use Rattle.words.specs.Range.{first}
use Rattle.words.specs.Reads.{at}
use Rattle.words.specs.Groups.{Least, size}
use Rattle.words.proofs.Tests.{either, clash, and_left, and_right, same_test}
use Rattle.words.proofs.Ranges.{found, Found}
use Rattle.words.proofs.Searches.{Missed, first_hit}
use Rattle.words.proofs.Sums.{count_same, count_none}
use Rattle.refine.specs.Refine.{has, Lined, leaves, next_of, stayer, stayers}
use Rattle.refine.proofs.Queues.{leaves-moved, leaves_kept, has-inside}
use Rattle.refine.proofs.Next.{next-length, next-least, next-same, same_next}

-- a position that names no group has the size 0
pub size_nameless : (u : List ℕ) → Least u → (s : ℕ) → at u s ≢ s → size u s ≡ 0
unfolding size
size_nameless u M s ne =
    count_none (λ j. eqb (at u j) s) (length u) 1 (λ j c d. ne_eqb (at u j) s (λ e. ne (ap (at u) (sym e) ∙ M.own j c (omega arith) ∙ e)))

-- the least position of the group k that stays, or 0
pub record Stays (t Q : List ℕ) (k j : ℕ) : Type 0 where
  pub low : 1 ≤ j
  pub high : j ≤ length t
  pub of : at t j ≡ k
  pub kept : has Q j ≡ false
  pub least : (i : ℕ) → 1 ≤ i → i < j → at t i ≡ k → has Q i ≡ true

module _ (t Q : List ℕ) (k : ℕ) where
  abbrev test : ℕ → Bool
  test i = eqb (at t i) k && not (has Q i)

  test_true : (i : ℕ) → at t i ≡ k → has Q i ≡ false → test i ≡ true
  test_true i e h = rw (eq-eqb (at t i) k e, h)

  test_is : (i : ℕ) → test i ≡ true → (at t i ≡ k) × (has Q i ≡ false)
  test_is i e = (eqb-true (at t i) k (and_left (eqb (at t i) k) (not (has Q i)) e), not-true (has Q i) (and_right (eqb (at t i) k) (not (has Q i)) e))

  abbrev sought : ℕ
  sought = first test (length t) 1

  sought_is : Found test (length t) 1 sought
  sought_is = found test (length t) 1

  -- a position of k before the one that is sought moves
  earlier : (i : ℕ) → 1 ≤ i → i < sought → at t i ≡ k → has Q i ≡ true
  earlier i a l e = ⊎_elim (λ h. h) (λ h. clash (test_true i e h) (sought_is.least i a l)) (either (has Q i))

  -- if it is a position, it is the least that stays; else none stays
  pub stayer_is : (j : ℕ) → stayer t Q k ≡ j → 1 ≤ j → Stays t Q k j
  unfolding stayer
  stayer_is j e l =
      ⊎_elim
      (λ h.
      let b : sought ≤ length t = leb-true sought (length t) h in
      let s = test_is sought (sought_is.pass (omega arith)) in
      rw (← (rw h at e)) (record { low = sought_is.low; high = b; of = s.0; kept = s.1; least = earlier }))
      (λ h. let z : 0 ≡ j = rw h at e in absurd (omega arith))
      (either (leb sought (length t)))

  pub stays-stayer : (j : ℕ) → Stays t Q k j → stayer t Q k ≡ j
  unfolding stayer
  stays-stayer j S =
      let missed : Missed test 1 j = λ i a l. ⊎_elim (λ e. clash (S.least i a l (test_is i e).0) (test_is i e).1) (λ e. e) (either (test i)) in
      rw (first_hit test (length t) 1 j missed S.low (omega (arith, S.high)) (test_true j S.of S.kept), le-leb j (length t) S.high)

module _ (t Q : List ℕ) (L : Least t) (N : Lined t Q) where
  -- a position that moves leaves under a name, which is not 0
  leaves-some : (i : ℕ) → has Q i ≡ true → 1 ≤ leaves t Q i
  leaves-some i h = let b = has-inside Q t N i h in rw (leaves-moved Q t i h) (L.low (suc i) (omega arith) b.1)

  -- ---- positions with one new name

  module _ (i j : ℕ) (a : 1 ≤ i) (b : i ≤ length t) (c : 1 ≤ j) (d : j ≤ length t) where
    -- what has the new name of a position that moves moves too, from the same group under the same name
    pub next-moved : has Q i ≡ true → at (next_of t Q) j ≡ at (next_of t Q) i → (has Q j ≡ true) × (at t j ≡ at t i) × (at t (suc j) ≡ at t (suc i))
    next-moved h e =
        let s = next-same t Q j i c d a b e in
        let m : has Q j ≡ true = ⊎_elim (λ p. p) (λ p. absurd (omega (arith, s.1, leaves-some i h, leaves_kept Q t j p))) (either (has Q j)) in
        (m, s.0, sym (leaves-moved Q t j m) ∙ s.1 ∙ leaves-moved Q t i h)

    -- what has the new name of a position that stays stays too, and was in its group
    pub next-kept : has Q i ≡ false → at (next_of t Q) j ≡ at (next_of t Q) i → (has Q j ≡ false) × (at t j ≡ at t i)
    next-kept h e =
        let s = next-same t Q j i c d a b e in
        (⊎_elim (λ p. absurd (omega (arith, s.1, leaves-some j p, leaves_kept Q t i h))) (λ p. p) (either (has Q j)), s.0)

    pub moved_same : has Q i ≡ true → has Q j ≡ true → at t i ≡ at t j → at t (suc i) ≡ at t (suc j) → at (next_of t Q) i ≡ at (next_of t Q) j
    moved_same h k e s = same_next t Q i j a b c d e (leaves-moved Q t i h ∙ s ∙ sym (leaves-moved Q t j k))

    pub kept_same : has Q i ≡ false → has Q j ≡ false → at t i ≡ at t j → at (next_of t Q) i ≡ at (next_of t Q) j
    kept_same h k e = same_next t Q i j a b c d e (leaves_kept Q t i h ∙ sym (leaves_kept Q t j k))

  -- ---- the new name

  module _ (i : ℕ) (a : 1 ≤ i) (b : i ≤ length t) where
    -- it is a position of the read that names itself, in the same old group
    pub next-name : (1 ≤ at (next_of t Q) i) × (at (next_of t Q) i ≤ i) × (at (next_of t Q) (at (next_of t Q) i) ≡ at (next_of t Q) i) × (at t (at (next_of t Q) i) ≡ at t i)
    next-name =
        let b' : i ≤ length (next_of t Q) = rw (next-length t Q) b in
        let low = (next-least t Q).low i a b' in
        let high = (next-least t Q).high i a b' in
        let own = (next-least t Q).own i a b' in
        (low, high, own, (next-same t Q (at (next_of t Q) i) i low (omega arith) a b own).0)

    -- that of a position that moves moves too, under the same name
    pub next-name-moved : has Q i ≡ true → (has Q (at (next_of t Q) i) ≡ true) × (at t (suc (at (next_of t Q) i)) ≡ at t (suc i))
    next-name-moved h =
        let n = next-name in
        let m = next-moved i (at (next_of t Q) i) a b n.0 (omega (arith, n.1)) h n.2 in
        (m.0, m.2)

    -- that of a position that stays is the least that stays of its group
    pub next-name-kept : has Q i ≡ false → stayer t Q (at t i) ≡ at (next_of t Q) i
    next-name-kept h =
        let n = next-name in
        let m = next-kept i (at (next_of t Q) i) a b n.0 (omega (arith, n.1)) h n.2 in
        stays-stayer t Q (at t i) (at (next_of t Q) i)
        (record {
          low = n.0;
          high = omega (arith, n.1);
          of = m.1;
          kept = m.0;
          least = λ j c l e. ⊎_elim (λ p. p)
              (λ p.
              let s = kept_same j i c (omega (arith, n.1)) a b p h e in
              absurd (omega (arith, s, (next-least t Q).high j c (rw (next-length t Q) (omega (arith, n.1))))))
              (either (has Q j));
        })

    -- an old name stays a name
    pub name-stays : at t i ≡ i → at (next_of t Q) i ≡ i
    name-stays e = let n = next-name in omega (arith, n.1, n.3, L.high (at (next_of t Q) i) n.0 (omega (arith, n.1)), e)

  -- ---- sizes

  -- the size of what stays of a group, at its new name
  pub size-kept : (s : ℕ) → 1 ≤ s → s ≤ length t → has Q s ≡ false → at (next_of t Q) s ≡ s → size (next_of t Q) s ≡ stayers t Q (at t s)
  unfolding size stayers
  size-kept s a b h e =
      rw (next-length t Q)
      (count_same (λ j. eqb (at (next_of t Q) j) s) (λ j. eqb (at t j) (at t s) && not (has Q j)) (length t) 1
      (λ j c d. same_test (eqb (at (next_of t Q) j) s) (eqb (at t j) (at t s) && not (has Q j))
      (λ p.
      let k = next-kept s j a b c (omega arith) h (eqb-true (at (next_of t Q) j) s p ∙ sym e) in
      cc (eq-eqb (at t j) (at t s) k.1, k.0))
      (λ p.
      let q : at t j ≡ at t s = eqb-true (at t j) (at t s) (and_left (eqb (at t j) (at t s)) (not (has Q j)) p) in
      let r : has Q j ≡ false = not-true (has Q j) (and_right (eqb (at t j) (at t s)) (not (has Q j)) p) in
      eq-eqb (at (next_of t Q) j) s (kept_same j s c (omega arith) a b r h q ∙ e))))
