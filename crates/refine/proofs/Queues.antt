-- Any queue: which positions are in it, and in which order. Assumes nothing.
use Prim.Native.Nat.{ℕ, suc, ◌≤◌, ◌<◌}
use mathlib.Core.Path.{◌≡◌, sym, ap}
use mathlib.Core.Logic.{⊎_elim}
use mathlib.Core.Bool.{true, false, not}
use mathlib.Core.List.{List}
use native.Mathlib.Omega.{arith}
use native.Mathlib.Nat.{eq-or-lt_of_le, le_antisymm}
use lib.ListN.{length}
use lib.Dec.{eqb}
use borrow.Author.Tests.{eqb-true, not-true, not-false}
use Rattle.words.specs.Range.{every}
use Rattle.words.specs.Reads.{at}
use Rattle.words.proofs.Tests.{lt_or_ge, not-both, fails, eqb_self}
use Rattle.words.proofs.Ranges.{every-at, every_fails}
use Rattle.refine.specs.Refine.{has, leaves, Lined}

module _ (Q : List ℕ) where
  -- a position that is in the queue has a place there
  pub has_is : (i : ℕ) → has Q i ≡ true → (q : ℕ) × (1 ≤ q) × (q ≤ length Q) × (at Q q ≡ i)
  unfolding has
  has_is i e =
      let r = every_fails (λ q. not (eqb (at Q q) i)) (length Q) 1 (not-true (every (λ q. not (eqb (at Q q) i)) (length Q) 1) e) in
      (r.0, r.1, omega (arith, r.2), eqb-true (at Q r.0) i (not-false (eqb (at Q r.0) i) r.3))

  -- what stands at a place of the queue is in it
  pub is_has : (q : ℕ) → 1 ≤ q → q ≤ length Q → has Q (at Q q) ≡ true
  unfolding has
  is_has q a b =
      fails (every (λ r. not (eqb (at Q r) (at Q q))) (length Q) 1)
      (λ e. not-both (eqb (at Q q) (at Q q)) (every-at (λ r. not (eqb (at Q r) (at Q q))) (length Q) 1 e q a (omega arith)) (eqb_self (at Q q)))

  module _ (t : List ℕ) where
    pub leaves-moved : (i : ℕ) → has Q i ≡ true → leaves t Q i ≡ at t (suc i)
    unfolding leaves
    leaves-moved i e = rw e

    pub leaves_kept : (i : ℕ) → has Q i ≡ false → leaves t Q i ≡ 0
    unfolding leaves
    leaves_kept i e = rw e

    module _ (L : Lined t Q) where
      -- of two places, the one with the lesser position, under one name, or with the lesser name comes first
      pub lined-before : (q r : ℕ) → 1 ≤ q → q ≤ length Q → 1 ≤ r → r ≤ length Q → at t (suc (at Q q)) ≡ at t (suc (at Q r)) → at Q q < at Q r → q < r
      lined-before q r a b c d e l =
          ⊎_elim
          (λ h. h)
          (λ h. ⊎_elim
          (λ (s : r ≡ q). absurd (omega (arith, ap (at Q) s)))
          (λ s. ⊎_elim (λ m. absurd (omega arith)) (λ m. absurd (omega (arith, m.1))) (L.rises r q c s b))
          (eq-or-lt_of_le h))
          (lt_or_ge q r)

      -- no position stands twice
      pub lined_once : (q r : ℕ) → 1 ≤ q → q ≤ length Q → 1 ≤ r → r ≤ length Q → at Q q ≡ at Q r → q ≡ r
      lined_once q r a b c d e =
          ⊎_elim (λ l. absurd (apart q r a l d e)) (λ l. ⊎_elim (λ m. absurd (apart r q c m b (sym e))) (λ m. le_antisymm m l) (lt_or_ge r q)) (lt_or_ge q r)
        where
          apart : (g h : ℕ) → 1 ≤ g → g < h → h ≤ length Q → at Q g ≡ at Q h → ⊥
          apart g h p l m s = ⊎_elim (λ k. omega (arith, ap (λ (v : ℕ). at t (suc v)) s)) (λ k. omega (arith, k.1)) (L.rises g h p l m)

      -- a position of the queue is one of the read, with a right neighbour
      pub has-inside : (i : ℕ) → has Q i ≡ true → (1 ≤ i) × (suc i ≤ length t)
      has-inside i e =
          let r = has_is i e in
          let l = L.inside r.0 r.1 r.2 in
          (omega (arith, l.0, r.3), omega (arith, l.1, r.3))

-- along a queue, the names under which its positions move never fall
pub lined_rises : (t Q : List ℕ) → Lined t Q → (q r : ℕ) → 1 ≤ q → q ≤ r → r ≤ length Q → at t (suc (at Q q)) ≤ at t (suc (at Q r))
lined_rises t Q N q r a l b =
    ⊎_elim (λ (e : q ≡ r). omega (arith, ap (λ (v : ℕ). at t (suc (at Q v))) e)) (λ m. ⊎_elim (λ h. omega arith) (λ h. omega (arith, h.0)) (N.rises q r a m b)) (eq-or-lt_of_le l)
