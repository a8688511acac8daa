-- The order of the parts of a group, in which the first one is the big part. Assumes nothing.
use Prim.Native.Nat.{ℕ, ◌≤◌}
use mathlib.Core.Path.{◌≡◌, refl, sym}
use mathlib.Core.Logic.{◌⊎◌, inl, inr, ⊎_elim, ◌≢◌}
use mathlib.Core.Bool.{true, false, ◌&&◌, ◌||◌, not}
use mathlib.Core.List.{List}
use native.Mathlib.Omega.{arith}
use lib.ListN.{length}
use lib.Dec.{leb, ltb, eqb}
use borrow.Author.Tests.{lt-ltb, le-ltb, eq-eqb, ne_eqb, le-leb, eqb-true, ltb-true, ltb-false, eqb-false, leb-true, not-true}
use Rattle.words.specs.Reads.{at}
use Rattle.words.specs.Groups.{size, beats, big}
use Rattle.words.proofs.Tests.{either, clash, lt_or_ge, or_left, or_right, or_cases, and_left, and_right}
use Rattle.words.proofs.Ranges.{every_of, every-at}
use Rattle.step9_parts.specs.Turns.{Ahead, better_of, takes}

module _ (u : List ℕ) where
  pub ahead_self : (s : ℕ) → Ahead u s s
  ahead_self s = (omega arith, λ _. omega arith)

  pub ahead_join : (a b c : ℕ) → Ahead u a b → Ahead u b c → Ahead u a c
  ahead_join a b c (p, f) (q, g) = (omega arith, λ e. omega (arith, f (omega arith), g (omega arith)))

  ahead-both : (a b : ℕ) → Ahead u a b → Ahead u b a → a ≡ b
  ahead-both a b (p, f) (q, g) = omega (arith, f (omega arith), g (omega arith))

  module _ (s r : ℕ) where
    ahead-beats : Ahead u s r → beats u s r ≡ true
    unfolding beats
    ahead-beats (p, f) =
        ⊎_elim
        (λ l. rw (lt-ltb (size u r) (size u s) l) refl)
        (λ l.
        let e : size u r ≡ size u s = omega arith in
        rw (le-ltb (size u r) (size u s) l, eq-eqb (size u r) (size u s) e, le-leb s r (f e)) refl)
        (lt_or_ge (size u r) (size u s))

    beats-ahead : beats u s r ≡ true → Ahead u s r
    unfolding beats
    beats-ahead e =
        ⊎_elim
        (λ l. let m = ltb-true (size u r) (size u s) l in (omega arith, λ z. absurd (omega arith)))
        (λ b.
        let z = eqb-true (size u r) (size u s) (and_left (eqb (size u r) (size u s)) (leb s r) b) in
        (omega arith, λ _. leb-true s r (and_right (eqb (size u r) (size u s)) (leb s r) b)))
        (or_cases (ltb (size u r) (size u s)) (eqb (size u r) (size u s) && leb s r) e)

  module _ (t : List ℕ) (b : ℕ) where
    -- a part that goes before every part of its group is the big one
    pub ahead-big : ((j : ℕ) → 1 ≤ j → j ≤ length u → at t j ≡ at t b → Ahead u b (at u j)) → big t u b ≡ true
    unfolding big
    ahead-big h = every_of (λ j. not (eqb (at t j) (at t b)) || beats u b (at u j)) (length u) 1 (λ j a l. go j a (omega arith) (either (eqb (at t j) (at t b))))
      where
        go : (j : ℕ) → 1 ≤ j → j ≤ length u → (eqb (at t j) (at t b) ≡ true) ⊎ (eqb (at t j) (at t b) ≡ false) → not (eqb (at t j) (at t b)) || beats u b (at u j) ≡ true
        go j a l (inl e) = or_right (not (eqb (at t j) (at t b))) (beats u b (at u j)) (ahead-beats b (at u j) (h j a l (eqb-true (at t j) (at t b) e)))
        go j a l (inr e) = or_left (not (eqb (at t j) (at t b))) (beats u b (at u j)) (rw e)

    -- and goes before each
    big-ahead : big t u b ≡ true → (j : ℕ) → 1 ≤ j → j ≤ length u → at t j ≡ at t b → Ahead u b (at u j)
    unfolding big
    big-ahead e j a l h =
        ⊎_elim
        (λ n. clash (eq-eqb (at t j) (at t b) h) (not-true (eqb (at t j) (at t b)) n))
        (λ w. beats-ahead b (at u j) w)
        (or_cases (not (eqb (at t j) (at t b))) (beats u b (at u j)) (every-at (λ i. not (eqb (at t i) (at t b)) || beats u b (at u i)) (length u) 1 e j a (omega arith)))

    -- a part that another goes before is not the big one
    pub ahead_small : (r : ℕ) → 1 ≤ r → r ≤ length u → at u r ≡ r → at t r ≡ at t b → Ahead u r b → r ≢ b → big t u b ≡ false
    ahead_small r a l own e h ne = ⊎_elim (λ w. absurd (ne (ahead-both r b h (rw own at (big-ahead w r a l e))))) (λ w. w) (either (big t u b))

-- ---- the test of the code

module _ (u many : List ℕ) (b c : ℕ) (B : 1 ≤ b → at many b ≡ size u b) (C : at many c ≡ size u c) where
  abbrev z : ℕ
  z = at many b

  abbrev y : ℕ
  y = at many c

  -- what takes the lead goes before the one that had it
  pub takes-ahead : takes many b c ≡ true → 1 ≤ b → Ahead u c b
  unfolding takes better_of
  takes-ahead e l =
      let d : better_of b z c y ≡ true = rw (ne_eqb b 0 (omega arith)) at e in
      let m : z ≤ y = ⊎_elim (λ m. clash refl (sym (rw (le-ltb z y (omega arith), lt-ltb y z m) at d))) (λ m. m) (lt_or_ge y z) in
      rw (← B l, ← C) (m, λ t. omega (arith, ltb-true c b (rw (le-ltb z y (omega (arith, t)), le-ltb y z m) at d)))

  -- what does not goes after it
  pub takes-behind : takes many b c ≡ false → (1 ≤ b) × Ahead u b c
  unfolding takes better_of
  takes-behind e =
      let l : 1 ≤ b = ⊎_elim (λ o. clash refl (rw o at e)) (λ o. omega (arith, eqb-false b 0 o)) (either (eqb b 0)) in
      let d : better_of b z c y ≡ false = rw (ne_eqb b 0 (omega arith)) at e in
      let m : y ≤ z = ⊎_elim (λ m. clash refl (rw (lt-ltb z y m) at d)) (λ m. m) (lt_or_ge z y) in
      (l, rw (← B l, ← C) (m, λ t. ltb-false c b (rw (le-ltb z y m, le-ltb y z (omega (arith, t))) at d)))
