-- A motif that lies in the read stands there once at least, and one that holds an N once and no more, as its own root. Assumes nothing.
use Prim.Native.Nat.{ℕ, suc, ◌+◌, ◌*◌, ◌/◌, ◌%◌, ◌≤◌, ◌<◌}
use mathlib.Core.Path.{◌≡◌, sym, ap, subst, ◌∙◌}
use mathlib.Core.Logic.{⊎_elim, ◌≢◌}
use mathlib.Core.List.{List}
use native.Mathlib.Omega.{arith}
use native.Mathlib.Nat.{div_self, div-add-mod, mod-lt, mod-eq_of_lt, add-mod_right, mul-le-mul_left, lt_of_mul-lt-mul_left}
use lib.ListN.{length}
use Rattle.words.specs.Reads.{at, unread, letter}
use Rattle.words.specs.Repeats.{copies}
use Rattle.words.proofs.Tests.{lt_or_ge}
use Rattle.words.proofs.Letters.{letters_tell}
use Rattle.words.proofs.Repeats.{Stands}
use Rattle.words.proofs.Copies.{copies-end, copies_is}
use Rattle.words_claims.specs.Claims.{root}
use Rattle.words_claims.proofs.Roots.{writes_self, writes_folds, root-some, root_high, root-writes}

module _ (x : List ℕ) (i p : ℕ) (h : 1 ≤ p) (f : i + p ≤ suc (length x)) where
  stands_once : Stands x i p 1
  stands_once = subst (λ (e : ℕ). Stands x i p e) (div_self h) (writes_self x i p h f).1

  -- the count is never 0
  pub copies-some : 1 ≤ i → 1 ≤ copies x i p
  copies-some a = ⊎_elim (λ l. absurd (copies-end x i p a h (subst (λ (e : ℕ). Stands x i p e) (omega arith) stands_once))) (λ l. l) (lt_or_ge (copies x i p) 1)

  -- a motif that holds an N
  module _ (k : ℕ) (l : k < p) (n : at x (i + k) ≡ unread) where
    alone : (j : ℕ) → j ≢ i + k → letter x (i + k) ≢ letter x j
    alone j ne e = ⊎_elim (λ q. ne (sym q)) (λ r. r.1 n) (letters_tell x (i + k) j e)

    pub unread-root : root x i p ≡ p
    unread-root = ⊎_elim (λ m. absurd (short m)) (λ m. omega (arith, m, root_high x i p h)) (lt_or_ge (root x i p) p)
      where
        some : 1 ≤ root x i p
        some = root-some x i p h

        folds : (m : ℕ) → m < p → letter x (i + m) ≡ letter x (i + m % root x i p)
        folds = writes_folds x i p (root x i p) some (root-writes x i p h f)

        -- the root stands twice, so that the N is met again a root further, or a root before
        short : root x i p < p → ⊥
        short m =
            let whole : root x i p * (p / root x i p) ≡ p = omega (arith, div-add-mod p (root x i p), (root-writes x i p h f).0) in
            let more : 1 < p / root x i p = lt_of_mul-lt-mul_left (root x i p) (omega (arith, whole)) in
            let two : root x i p * 2 ≤ root x i p * (p / root x i p) = mul-le-mul_left (root x i p) more in
            ⊎_elim
            (λ (v : k < root x i p). alone (i + (k + root x i p)) (omega (arith, some))
            (sym (folds (k + root x i p) (omega (arith, two, whole)) ∙ ap (λ (q : ℕ). letter x (i + q)) (add-mod_right k (root x i p) ∙ mod-eq_of_lt v))))
            (λ v. alone (i + k % root x i p) (omega (arith, mod-lt k some)) (folds k l))
            (lt_or_ge k (root x i p))

    pub unread-copies : 1 ≤ i → copies x i p ≡ 1
    unread-copies a = copies_is x i p 1 a h stands_once (λ s. alone (i + p * 1 + k) (omega arith) (s.1 1 (omega arith) k l))
