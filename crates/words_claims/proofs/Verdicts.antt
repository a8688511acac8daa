-- The verdict of a claim, test by test in the order of the definition: what each test says, and what is told where they come out so. Assumes nothing.
use Prim.Native.Nat.{ℕ, suc, ◌+◌, ◌-◌, ◌*◌, ◌≤◌, ◌<◌}
use mathlib.Core.Path.{◌≡◌, sym, ◌∙◌}
use mathlib.Core.Logic.{◌⊎◌, inl, inr, ⊎_elim, ◌≢◌}
use mathlib.Core.Bool.{true, false, ◌||◌}
use mathlib.Core.List.{List}
use native.Mathlib.Omega.{arith}
use native.Mathlib.Nat.{mul-le-mul_left}
use lib.ListN.{length}
use lib.Dec.{leb, ltb, eqb}
use borrow.Author.Tests.{leb-true, le-leb, lt-ltb, le-ltb, eqb-true, eq-eqb, ne_eqb, not-true}
use Rattle.words.specs.Reads.{most}
use Rattle.words.specs.Repeats.{copies}
use Rattle.words.specs.Calls.{too_long}
use Rattle.words.proofs.Tests.{clash, fails, and_left, and_right, and_both, or_left, or_right, lt_or_ge}
use Rattle.words_claims.specs.Claims.{outside, root, shorter, counted}
use Rattle.words_claims.specs.Calls.{verdict}
use Rattle.std.specs.Prelude.{Result, Ok, Err}
use Rattle.words.specs.declared.Refusal.{Refusal}
use Rattle.words_claims.specs.declared.Verdict.{Verdict}

module _ (x : List ℕ) (i p e : ℕ) where
  -- a 0 among the three, or a last byte beyond the read
  abbrev pub Outside : Type 0
  Outside = (i ≡ 0) ⊎ ((p ≡ 0) ⊎ ((e ≡ 0) ⊎ (length x < i + p * e - 1)))

  -- none of that: the copies claimed lie in the read
  abbrev pub Inside : Type 0
  Inside = (1 ≤ i) × (1 ≤ p) × (1 ≤ e) × (i + p * e ≤ suc (length x))

  pub is_outside : Outside → outside x i p e ≡ true
  unfolding outside
  is_outside (inl q) = or_left _ _ (or_left _ _ (or_left _ _ (eq-eqb i 0 q)))
  is_outside (inr (inl q)) = or_left _ _ (or_left _ _ (or_right (eqb i 0) _ (eq-eqb p 0 q)))
  is_outside (inr (inr (inl q))) = or_left _ _ (or_right (eqb i 0 || eqb p 0) _ (eq-eqb e 0 q))
  is_outside (inr (inr (inr l))) = or_right (eqb i 0 || eqb p 0 || eqb e 0) _ (lt-ltb (length x) (i + p * e - 1) l)

  -- where there is no 0, the last byte decides
  pub outside_last : 1 ≤ i → 1 ≤ p → 1 ≤ e → ltb (length x) (i + p * e - 1) ≡ outside x i p e
  unfolding outside
  outside_last a b c = rw (ne_eqb i 0 (omega arith), ne_eqb p 0 (omega arith), ne_eqb e 0 (omega arith))

  pub is_inside : Inside → outside x i p e ≡ false
  is_inside n = sym (outside_last n.0 n.1 n.2) ∙ le-ltb (length x) (i + p * e - 1) (omega (arith, n.3))

  pub inside_or : Outside ⊎ Inside
  inside_or = go (lt_or_ge i 1) (lt_or_ge p 1) (lt_or_ge e 1) (lt_or_ge (length x) (i + p * e - 1))
    where
      go : (i < 1) ⊎ (1 ≤ i) → (p < 1) ⊎ (1 ≤ p) → (e < 1) ⊎ (1 ≤ e) → (length x < i + p * e - 1) ⊎ (i + p * e - 1 ≤ length x) → Outside ⊎ Inside
      go (inl a) b c l = inl (inl (omega arith))
      go (inr a) (inl b) c l = inl (inr (inl (omega arith)))
      go (inr a) (inr b) (inl c) l = inl (inr (inr (inl (omega arith))))
      go (inr a) (inr b) (inr c) (inl l) = inl (inr (inr (inr l)))
      go (inr a) (inr b) (inr c) (inr l) = inr (a, b, c, omega arith)

  pub outside_is : outside x i p e ≡ true → Outside
  outside_is t = ⊎_elim (λ o. o) (λ n. clash t (is_inside n)) inside_or

  pub inside_is : outside x i p e ≡ false → Inside
  inside_is t = ⊎_elim (λ o. clash (is_outside o) t) (λ n. n) inside_or

  -- the motif fits then
  pub inside-fits : Inside → i + p ≤ suc (length x)
  inside-fits n = omega (arith, n.3, mul-le-mul_left p n.2)

  counted_yes : 2 ≤ e → copies x i p ≡ e → counted x i p e ≡ true
  unfolding counted
  counted_yes l q = and_both (leb 2 e) (eqb (copies x i p) e) (le-leb 2 e l) (eq-eqb (copies x i p) e q)

  counted_no : (2 ≤ e → copies x i p ≢ e) → counted x i p e ≡ false
  unfolding counted
  counted_no n = not-true (counted x i p e) (fails (counted x i p e) (λ t. n (leb-true 2 e (and_left (leb 2 e) (eqb (copies x i p) e) t)) (eqb-true (copies x i p) e (and_right (leb 2 e) (eqb (copies x i p) e) t))))

  -- what is told
  pub tells_long : most < length x → verdict x i p e ≡ Err (Refusal.TooLong (length x))
  unfolding verdict too_long
  tells_long l = rw (lt-ltb most (length x) l)

  module _ (m : length x ≤ most) where
    pub tells_outside : Outside → verdict x i p e ≡ Ok Verdict.Outside
    unfolding verdict too_long
    tells_outside o = rw (le-ltb most (length x) m, is_outside o)

    pub tells_shorter : Inside → root x i p < p → verdict x i p e ≡ Ok (Verdict.Shorter (root x i p))
    unfolding verdict too_long shorter
    tells_shorter n l = rw (le-ltb most (length x) m, is_inside n, lt-ltb (root x i p) p l)

    pub tells_yes : Inside → p ≤ root x i p → 2 ≤ e → copies x i p ≡ e → verdict x i p e ≡ Ok Verdict.Yes
    unfolding verdict too_long shorter
    tells_yes n l two q = rw (le-ltb most (length x) m, is_inside n, le-ltb (root x i p) p l, counted_yes two q)

    pub tells_copies : Inside → p ≤ root x i p → (2 ≤ e → copies x i p ≢ e) → verdict x i p e ≡ Ok (Verdict.Copies (copies x i p))
    unfolding verdict too_long shorter
    tells_copies n l q = rw (le-ltb most (length x) m, is_inside n, le-ltb (root x i p) p l, counted_no q)
