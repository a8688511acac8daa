-- The places of a queue whose positions pass a test are as many as the positions that are in it and pass: each stands at one place. So what
-- stays of a group and what the queue has of it make up the group. Assumes nothing.
use Prim.Native.Nat.{ℕ, ◌+◌, ◌≤◌}
use mathlib.Core.Path.{◌≡◌, refl, sym, ap, ◌∙◌}
use mathlib.Core.Logic.{⊎_elim, ◌≢◌}
use mathlib.Core.Bool.{Bool, true, false, ◌&&◌, not}
use mathlib.Core.List.{List}
use native.Mathlib.Omega.{arith}
use lib.ListN.{length}
use lib.Dec.{eqb}
use borrow.Author.Tests.{eq-eqb, ne_eqb}
use Rattle.words.specs.Range.{sum, bit, count}
use Rattle.words.specs.Reads.{at}
use Rattle.words.specs.Groups.{size}
use Rattle.words.proofs.Tests.{either, clash}
use Rattle.words.proofs.Sums.{sum_same, sum-zero, sum-add, sum-only, sum_swap}
use Rattle.refine.specs.Refine.{has, Lined, stayers}
use Rattle.refine.proofs.Queues.{has_is, is_has, lined_once}

module _ (t Q : List ℕ) (L : Lined t Q) (p : ℕ → Bool) where
  -- 1 if place r holds the position i and i passes
  stands : ℕ → ℕ → ℕ
  stands r i = bit (eqb (at Q r) i && p i)

  stands_there : (r i : ℕ) → at Q r ≡ i → stands r i ≡ bit (p i)
  unfolding stands
  stands_there r i e = rw (eq-eqb (at Q r) i e)

  stands_elsewhere : (r i : ℕ) → at Q r ≢ i → stands r i ≡ 0
  unfolding stands
  stands_elsewhere r i ne = rw (ne_eqb (at Q r) i ne)

  place_sum : (r : ℕ) → 1 ≤ r → r ≤ length Q → sum (stands r) (length t) 1 ≡ bit (p (at Q r))
  place_sum r a b =
      let l = L.inside r a b in
      sum-only (stands r) (length t) 1 (at Q r) l.0 (omega (arith, l.1)) (λ i c d ne. stands_elsewhere r i (λ e. ne (sym e)))
      ∙ stands_there r (at Q r) refl

  position_sum : (i : ℕ) → sum (λ r. stands r i) (length Q) 1 ≡ bit (has Q i && p i)
  position_sum i =
      ⊎_elim
      (λ h.
      let w = has_is Q i h in
      sum-only (λ r. stands r i) (length Q) 1 w.0 w.1 (omega (arith, w.2))
      (λ r c d ne. stands_elsewhere r i (λ e. ne (lined_once Q t L r w.0 c (omega arith) w.1 w.2 (e ∙ sym w.3))))
      ∙ stands_there w.0 i w.3
      ∙ rw h)
      (λ h.
      sum-zero (λ r. stands r i) (length Q) 1
      (λ r c d. stands_elsewhere r i (λ e. clash (ap (has Q) (sym e) ∙ is_has Q r c (omega arith)) h))
      ∙ rw h)
      (either (has Q i))

  pub count-places : count (λ r. p (at Q r)) (length Q) 1 ≡ count (λ i. has Q i && p i) (length t) 1
  unfolding count
  count-places =
      sum_same (λ r. bit (p (at Q r))) (λ r. sum (stands r) (length t) 1) (length Q) 1 (λ r a b. sym (place_sum r a (omega arith)))
      ∙ sum_swap stands (length Q) 1 (length t) 1
      ∙ sum_same (λ i. sum (λ r. stands r i) (length Q) 1) (λ i. bit (has Q i && p i)) (length t) 1 (λ i a b. position_sum i)

-- a test in two parts, by another
bits_parted : (a h : Bool) → bit (a && not h) + bit (h && a) ≡ bit a
bits_parted true true = refl
bits_parted true false = refl
bits_parted false true = refl
bits_parted false false = refl

-- what stays of a group, and the places of the queue that hold the rest of it
pub stayers-places : (t Q : List ℕ) → Lined t Q → (k : ℕ) → stayers t Q k + count (λ r. eqb (at t (at Q r)) k) (length Q) 1 ≡ size t k
unfolding stayers size count
stayers-places t Q L k =
    rw (count-places t Q L (λ i. eqb (at t i) k))
    (sym (sum-add (λ i. bit (eqb (at t i) k && not (has Q i))) (λ i. bit (has Q i && eqb (at t i) k)) (length t) 1)
    ∙ sum_same (λ i. bit (eqb (at t i) k && not (has Q i)) + bit (has Q i && eqb (at t i) k)) (λ i. bit (eqb (at t i) k)) (length t) 1 (λ i a b. bits_parted (eqb (at t i) k) (has Q i)))
