-- The root of a motif, as the code looks for it: a length writes the motif if and only if it agrees all the way; where one agrees for m bases and no further, none from it up to
-- m writes the motif; and none does beyond the half, or past the read's end. Assumes nothing.
use Prim.Native.Nat.{ℕ, suc, ◌+◌, ◌-◌, ◌/◌, ◌%◌, ◌≤◌, ◌<◌}
use mathlib.Core.Path.{◌≡◌, sym, ap, ◌∙◌}
use mathlib.Core.Logic.{◌⊎◌, inl, inr, ⊎_elim, ◌≢◌}
use mathlib.Core.Bool.{true, false}
use mathlib.Core.List.{List}
use native.Mathlib.Omega.{arith}
use native.Mathlib.Nat.{div-add-mod, mod-lt, mod-eq_of_lt, mod-eq-sub-mod, add-mod-mod}
use lib.ListN.{length}
use lib.Dec.{eqb}
use borrow.Author.Tests.{eqb-true, ne_eqb}
use Rattle.words.specs.Reads.{letter}
use Rattle.words.specs.Repeats.{writes}
use Rattle.words.proofs.Tests.{either, lt_or_ge}
use Rattle.words.proofs.Searches.{Missed, missed_none, first_hit, first_ended}
use Rattle.words.proofs.Repeats.{Folds, writes_is}
use Rattle.words_claims.specs.Claims.{root}
use Rattle.words_claims.proofs.Roots.{writes_folds}
use Rattle.call_copies.specs.Copies.{agreed, agreed_inside}
use Rattle.call_copies.proofs.Refuted.{test_refuted}
use Rattle.call_copies.proofs.Stretched.{stretch-writes}
use Rattle.call_copies.proofs.Agreed.{agreed_high, agreed-alike, agreed-ends, agreed_whole}

module _ (x : List ℕ) (i p : ℕ) where
  -- no length below d writes the motif
  abbrev pub Unwritten : ℕ → Type 0
  Unwritten d = Missed (writes x i p) 1 d

  refuted : (d : ℕ) → (writes x i p d ≡ true → ⊥) → writes x i p d ≡ false
  refuted d n = sym (test_refuted (writes x i p d) n)

  -- a motif of one base is its own root; one of none has 1 by the definition
  pub root_short : p < 2 → 1 ≡ root x i p
  unfolding root
  root_short l = sym (first_ended (writes x i p) (p - 1) 1 1 (missed_none (writes x i p) 1 1 (omega arith)) (omega arith))

  pub root_found : (d : ℕ) → 1 ≤ d → d < p → Unwritten d → writes x i p d ≡ true → d ≡ root x i p
  unfolding root
  root_found d a b m t = sym (first_hit (writes x i p) (p - 1) 1 d m a (omega arith) t)

  root_ended : 1 ≤ p → Unwritten p → p ≡ root x i p
  unfolding root
  root_ended h m = sym (first_ended (writes x i p) (p - 1) 1 p m (omega arith))

  pub root_past : 1 ≤ p → suc (length x) < i + p → p ≡ root x i p
  root_past h l = root_ended h (λ k a b. refuted k (λ t. let w = writes_is x i p k t in omega (arith, l, w.0, w.1.0, div-add-mod p k)))

  -- a number between the half of p and p does not divide it
  pub root_half : 1 ≤ p → (d : ℕ) → p / 2 < d → Unwritten d → p ≡ root x i p
  root_half h d l m = root_ended h (λ k a b. ⊎_elim (λ c. m k a c) (λ c. refuted k (λ t. rest k b c (writes_is x i p k t).0)) (lt_or_ge k d))
    where
      rest : (k : ℕ) → k < p → d ≤ k → p % k ≡ 0 → ⊥
      rest k b c z =
          let over : p < k + k = omega arith in
          let less : p % k ≡ (p - k) % k = mod-eq-sub-mod (omega arith) in
          let left : (p - k) % k ≡ p - k = mod-eq_of_lt (omega arith) in
          omega arith

  -- one length tried
  module _ (d : ℕ) (a : 1 ≤ d) (b : d < p) where
    pub inside_high : (m : ℕ) → m ≡ agreed_inside x i p d → m ≤ p - d
    unfolding agreed_inside
    inside_high m q = rw q (⊎_elim (λ z. rw z (agreed_high x (p - d) i (i + d))) (λ z. rw z (omega arith)) (either (eqb (p % d) 0)))

    pub inside-writes : i + p ≤ suc (length x) → eqb (agreed_inside x i p d) (p - d) ≡ writes x i p d
    unfolding agreed_inside writes
    inside-writes f = ⊎_elim
        (λ z. rw z (agreed_whole x (p - d) i (i + d) ∙ stretch-writes x i p d a b (eqb-true (p % d) 0 z) f))
        (λ z. rw z (ne_eqb 0 (p - d) (λ q. omega (arith, q))))
        (either (eqb (p % d) 0))

    module _ (m : ℕ) (q : m ≡ agreed_inside x i p d) (n : m ≢ p - d) where
      -- if a length up to m wrote the motif, the base behind those that agree would agree too
      agrees_on : m ≡ agreed x (p - d) i (i + d) → (k : ℕ) → 1 ≤ k → k ≤ m → writes x i p k ≡ true → ⊥
      agrees_on e k c l t = agreed-ends x (p - d) i (i + d) (omega (arith, e, less)) (rw e at next)
        where
          less : m < p - d
          less = omega (arith, n, e, agreed_high x (p - d) i (i + d))

          folds : Folds x i k p
          folds = writes_folds x i p k c (writes_is x i p k t)

          next : letter x (i + m) ≡ letter x (i + d + m)
          next =
              let r : m % k < k = mod-lt m c in
              folds m (omega (arith, less))
              ∙ agreed-alike x (p - d) i (i + d) (m % k) (omega (arith, e))
              ∙ ap (letter x) (omega arith)
              ∙ folds (d + m % k) (omega (arith, less))
              ∙ ap (λ (v : ℕ). letter x (i + v)) (add-mod-mod d m k)
              ∙ sym (folds (d + m) (omega (arith, less)))
              ∙ ap (letter x) (omega arith)

      jump_writes : (k : ℕ) → d < k → k ≤ m → writes x i p k ≡ false
      unfolding agreed_inside
      jump_writes k c l = ⊎_elim
          (λ z. let e : m ≡ agreed x (p - d) i (i + d) = rw z at q in refuted k (agrees_on e k (omega arith) l))
          (λ z. let e : m ≡ 0 = rw z at q in absurd (omega arith))
          (either (eqb (p % d) 0))

      -- so the next length to try is the one after d, or after m
      pub unwritten_on : i + p ≤ suc (length x) → Unwritten d → (s : ℕ) → (s ≤ d) ⊎ (s ≤ m) → Unwritten (s + 1)
      unwritten_on f u s h k c l = go (lt_or_ge k d) (lt_or_ge d k) h
        where
          go : (k < d) ⊎ (d ≤ k) → (d < k) ⊎ (k ≤ d) → (s ≤ d) ⊎ (s ≤ m) → writes x i p k ≡ false
          go (inl y) z h = u k c y
          go (inr y) (inr z) h = ap (writes x i p) (omega arith) ∙ sym (inside-writes f) ∙ ne_eqb _ _ (λ g. n (q ∙ g))
          go (inr y) (inl z) (inl h) = absurd (omega arith)
          go (inr y) (inl z) (inr h) = jump_writes k z (omega arith)
