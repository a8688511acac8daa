-- Copies in a row are one stretch: the p bytes from i stand e times if and only if p·(e - 1) bytes are those p further. So a comparison
-- of two stretches is the test of "stands", and its edges are those of the read. Assumes nothing.
use Prim.Native.Nat.{ℕ, zero, suc, ◌+◌, ◌-◌, ◌*◌, ◌/◌, ◌%◌, ◌≤◌, ◌<◌}
use mathlib.Core.Path.{◌≡◌, sym, ap, ◌∙◌}
use mathlib.Core.Bool.{false}
use mathlib.Core.List.{List}
use native.Mathlib.Omega.{arith}
use native.Mathlib.Nat.{div-add-mod, add-mod_right, mul-le-mul_left, le-div_iff_mul-le}
use lib.ListN.{length}
use Rattle.words.specs.Reads.{letter, alike}
use Rattle.words.specs.Repeats.{stands}
use Rattle.words.proofs.Tests.{same_test}
use Rattle.words.proofs.Stretches.{Alike, alike_is, is_alike}
use Rattle.words.proofs.Repeats.{Stands, stands_is, is_stands, stands_folds}
use Rattle.call_copies.proofs.Refuted.{test_refuted}

-- the first copy and the rest are the whole
copies-split : (p e : ℕ) → 1 ≤ e → p * e ≡ p + p * (e - 1)
copies-split p zero h = absurd (omega arith)
copies-split p (suc c) h = let q : p * (suc c - 1) ≡ p * c = ap (λ (v : ℕ). p * v) (omega arith) in omega arith

module _ (x : List ℕ) (i p : ℕ) where
  stretch-copies : (c : ℕ) → Alike x (p * c) i (i + p) → (k : ℕ) → k < suc c → Alike x p i (i + p * k)
  stretch-copies c a zero l m lm = ap (letter x) (omega arith)
  stretch-copies c a (suc k) l m lm =
      let b : p * suc k ≤ p * c = mul-le-mul_left p (omega arith) in
      stretch-copies c a k (omega arith) m lm ∙ ap (letter x) (omega arith) ∙ a (p * k + m) (omega arith) ∙ ap (letter x) (omega arith)

  copies-stretch : (c : ℕ) → 1 ≤ p → Stands x i p (suc c) → Alike x (p * c) i (i + p)
  copies-stretch c h s j l =
      let all : p * suc c ≡ p * c + p = omega arith in
      let folds = stands_folds x i p (suc c) h s in
      folds j (omega arith) ∙ ap (λ (v : ℕ). letter x (i + v)) (sym (add-mod_right j p)) ∙ sym (folds (j + p) (omega arith)) ∙ ap (letter x) (omega arith)

  pub stretch-stands : (e : ℕ) → 1 ≤ p → 1 ≤ e → i + p * e ≤ suc (length x) → alike x (p * (e - 1)) i (i + p) ≡ stands x i p e
  stretch-stands zero h g f = absurd (omega arith)
  stretch-stands (suc c) h g f =
      ap (λ (v : ℕ). alike x (p * v) i (i + p)) (omega arith)
      ∙ same_test (alike x (p * c) i (i + p)) (stands x i p (suc c))
      (λ t. is_stands x i p (suc c) (f, stretch-copies c (alike_is x (p * c) i (i + p) t)))
      (λ t. is_alike x (p * c) i (i + p) (copies-stretch c h (stands_is x i p (suc c) t)))

  pub past_stands : (e : ℕ) → suc (length x) < i + p * e → false ≡ stands x i p e
  past_stands e l = test_refuted (stands x i p e) (λ t. omega (arith, (stands_is x i p e t).0))

-- a motif inside the read, and a shorter one that goes into it a whole number of times
pub stretch-writes : (x : List ℕ) (i p d : ℕ) → 1 ≤ d → d < p → p % d ≡ 0 → i + p ≤ suc (length x) → alike x (p - d) i (i + d) ≡ stands x i d (p / d)
stretch-writes x i p d a b z f =
    let whole : d * (p / d) + p % d ≡ p = div-add-mod p d in
    let some : 1 ≤ p / d = (le-div_iff_mul-le a).1 (omega arith) in
    ap (λ (v : ℕ). alike x v i (i + d)) (omega (arith, copies-split d (p / d) some)) ∙ stretch-stands x i d (p / d) a some (omega arith)
