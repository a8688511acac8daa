-- How far two stretches agree: the code finds it byte by byte, they are alike if they agree all the way, and the copies of a motif are one
-- more than the periods that the read goes on as a period further. Assumes nothing.
use Prim.Native.Nat.{ℕ, suc, ◌+◌, ◌-◌, ◌*◌, ◌/◌, ◌%◌, ◌≤◌, ◌<◌}
use mathlib.Core.Path.{◌≡◌, sym, ap, ◌∙◌}
use mathlib.Core.Logic.{◌⊎◌, inl, inr, ⊎_elim}
use mathlib.Core.Bool.{true, false, not}
use mathlib.Core.List.{List}
use native.Mathlib.Omega.{arith}
use native.Mathlib.Nat.{div-add-mod, div-le_self, mod-lt, mul-le-mul_left}
use lib.ListN.{length}
use lib.Dec.{eqb}
use borrow.Author.Tests.{eqb-true, eq-eqb, not-true, not-false}
use Rattle.words.specs.Reads.{letter, alike}
use Rattle.words.specs.Repeats.{stands, copies}
use Rattle.words.proofs.Tests.{clash, same_test, lt_or_ge}
use Rattle.words.proofs.Ranges.{found, Found}
use Rattle.words.proofs.Stretches.{Alike, alike_is, is_alike}
use Rattle.call_copies.specs.Copies.{agreed}
use Rattle.call_copies.proofs.Refuted.{test_refuted}
use Rattle.call_copies.proofs.Stretched.{stretch-stands, past_stands}
use Rattle.call_copies.proofs.Counted.{Counted, counted-copies}

module _ (x : List ℕ) (w i j : ℕ) where
  sought : Found (λ k. not (eqb (letter x (i + k)) (letter x (j + k)))) w 0 (agreed x w i j)
  unfolding agreed
  sought = found (λ k. not (eqb (letter x (i + k)) (letter x (j + k)))) w 0

  pub agreed_high : agreed x w i j ≤ w
  agreed_high = omega (arith, sought.high)

  pub agreed-alike : Alike x (agreed x w i j) i j
  agreed-alike k l = eqb-true _ _ (not-false _ (sought.least k (omega arith) l))

  pub agreed-ends : agreed x w i j < w → letter x (i + agreed x w i j) ≡ letter x (j + agreed x w i j) → ⊥
  agreed-ends l e = clash (eq-eqb _ _ e) (not-true _ (sought.pass (omega arith)))

  pub agreed_is : (k : ℕ) → k ≤ w → Alike x k i j → (k < w → letter x (i + k) ≡ letter x (j + k) → ⊥) → k ≡ agreed x w i j
  agreed_is k b a n = go (lt_or_ge k (agreed x w i j)) (lt_or_ge (agreed x w i j) k)
    where
      go : (k < agreed x w i j) ⊎ (agreed x w i j ≤ k) → (agreed x w i j < k) ⊎ (k ≤ agreed x w i j) → k ≡ agreed x w i j
      go (inl l) m = absurd (n (omega (arith, agreed_high)) (agreed-alike k l))
      go (inr l) (inl m) = absurd (agreed-ends (omega arith) (a (agreed x w i j) m))
      go (inr l) (inr m) = omega arith

  -- the first bytes
  pub agreed-none : (letter x i ≡ letter x j → ⊥) → 0 ≡ agreed x w i j
  agreed-none n = agreed_is 0 (omega arith) (λ k l. absurd (omega arith)) (λ l e. n (ap (letter x) (omega arith) ∙ e ∙ ap (letter x) (omega arith)))

  pub agreed-first : letter x i ≡ letter x j → Alike x 1 i j
  agreed-first e k l = ap (letter x) (omega arith) ∙ e ∙ ap (letter x) (omega arith)

  -- all the way
  pub agreed_whole : eqb (agreed x w i j) w ≡ alike x w i j
  agreed_whole =
      same_test (eqb (agreed x w i j) w) (alike x w i j)
      (λ t. let e : agreed x w i j ≡ w = eqb-true _ _ t in is_alike x w i j (λ k l. agreed-alike k (omega arith)))
      (λ t. eq-eqb _ _ (sym (agreed_is w (omega arith) (alike_is x w i j t) (λ l. absurd (omega arith)))))

-- a motif inside the read, with w bytes after it: the first m of the read from i on are those a period further
module _ (x : List ℕ) (i p w m : ℕ) (h : 1 ≤ p) (f : i + p + w ≡ suc (length x)) (q : m ≡ agreed x w i (i + p)) where
  whole : p * (m / p) + m % p ≡ m
  whole = div-add-mod m p

  long : m ≤ w
  long = omega (arith, agreed_high x w i (i + p))

  pub agreed_few : m / p ≤ length x
  agreed_few = omega (arith, div-le_self m p, long)

  counted : Counted x i p (m / p + 1)
  counted k l =
      let most : p * k ≤ p * (m / p) = mul-le-mul_left p (omega arith) in
      let back : suc k - 1 ≡ k = omega arith in
      sym (stretch-stands x i p (suc k) h (omega arith) (omega (arith, most, whole, long)))
      ∙ rw back (is_alike x (p * k) i (i + p) (λ n b. agreed-alike x w i (i + p) n (omega (arith, most, whole))))

  ends : false ≡ stands x i p (suc (m / p + 1))
  ends =
      let rest : m % p < p = mod-lt m h in
      let turn : p * (m / p + 1) ≡ p * (m / p) + p = omega arith in
      let back : suc (m / p + 1) - 1 ≡ m / p + 1 = omega arith in
      ⊎_elim
      (λ l. past_stands x i p (suc (m / p + 1)) l)
      (λ l. test_refuted (stands x i p (suc (m / p + 1)))
      (λ t.
      let a : alike x (p * (m / p + 1)) i (i + p) ≡ true = rw back at (stretch-stands x i p (suc (m / p + 1)) h (omega arith) l ∙ t) in
      agreed-ends x w i (i + p) (omega (arith, rest, turn, whole, q)) (rw q at (alike_is x (p * (m / p + 1)) i (i + p) a m (omega (arith, rest, turn, whole))))))
      (lt_or_ge (suc (length x)) (i + p * suc (m / p + 1)))

  -- the copies, and no more than n of them
  pub agreed-copies : m / p + 1 ≤ length x → m / p + 1 ≡ copies x i p
  agreed-copies b = counted-copies x i p (m / p + 1) b counted (λ l. ends)

  pub agreed-most : length x < m / p + 1 → length x ≡ copies x i p
  agreed-most b = counted-copies x i p (length x) (omega arith) (λ k l. counted k (omega arith)) (λ l. absurd (omega arith))
