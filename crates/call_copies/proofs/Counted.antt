-- The copy count: it is the number up to which the copies stand, and no further than n, the read's length. Assumes nothing.
use Prim.Native.Nat.{ℕ, suc, ◌+◌, ◌≤◌, ◌<◌}
use mathlib.Core.Path.{◌≡◌, sym}
use mathlib.Core.Logic.{◌⊎◌, inl, inr}
use mathlib.Core.Bool.{true, false, not}
use mathlib.Core.List.{List}
use native.Mathlib.Omega.{arith}
use lib.ListN.{length}
use borrow.Author.Tests.{not-true, not-false}
use Rattle.words.specs.Repeats.{stands, copies}
use Rattle.words.proofs.Tests.{clash, lt_or_ge}
use Rattle.words.proofs.Ranges.{found, Found}
use Rattle.words.proofs.Repeats.{is_stands}
use Rattle.call_copies.proofs.Stretched.{past_stands}

module _ (x : List ℕ) (i p : ℕ) where
  sought : Found (λ e. not (stands x i p (suc e))) (length x) 0 (copies x i p)
  unfolding copies
  sought = found (λ e. not (stands x i p (suc e))) (length x) 0

  -- e copies stand, and so do all fewer
  abbrev pub Counted : ℕ → Type 0
  Counted e = (k : ℕ) → k < e → stands x i p (suc k) ≡ true

  -- where the count ends
  pub counted-copies : (e : ℕ) → e ≤ length x → Counted e → (e < length x → false ≡ stands x i p (suc e)) → e ≡ copies x i p
  counted-copies e b c n = go (lt_or_ge e (copies x i p)) (lt_or_ge (copies x i p) e)
    where
      go : (e < copies x i p) ⊎ (copies x i p ≤ e) → (copies x i p < e) ⊎ (e ≤ copies x i p) → e ≡ copies x i p
      go (inl l) m = clash (not-false _ (sought.least e (omega arith) l)) (sym (n (omega (arith, sought.high))))
      go (inr l) (inl m) = clash (c (copies x i p) m) (not-true _ (sought.pass (omega arith)))
      go (inr l) (inr m) = omega arith

  -- a motif that does not lie in the read stands nowhere, and an empty one stands as often as is counted
  pub counted_past : suc (length x) < i + p → 0 ≡ copies x i p
  counted_past l = counted-copies 0 (omega arith) (λ k b. absurd (omega arith)) (λ m. past_stands x i p 1 (omega arith))

  pub counted_empty : p ≡ 0 → i + p ≤ suc (length x) → length x ≡ copies x i p
  counted_empty z f =
      counted-copies (length x) (omega arith)
      (λ k b. is_stands x i p (suc k) (rw z (omega arith), λ m l n ln. absurd (omega arith)))
      (λ m. absurd (omega arith))
