-- The root of a motif as a string: written several times it is the motif, it is no shorter string written twice or more, and no other such string writes the motif.
-- Assumes nothing.
use Prim.Native.Nat.{ℕ, zero, suc, ◌+◌, ◌*◌, ◌/◌, ◌≤◌, ◌<◌}
use mathlib.Core.Path.{◌≡◌, sym, ap, ◌∙◌}
use mathlib.Core.Bool.{true}
use mathlib.Core.List.{List}
use native.Mathlib.Omega.{arith}
use native.Mathlib.Nat.{div-add-mod, mul-le-mul_left, dvd_of_mod-eq-zero, le_of_dvd}
use lib.ListN.{length, get_or}
use lib.Seq.{ext_get_or}
use Rattle.words.specs.Reads.{stretch}
use Rattle.words.specs.Repeats.{primitive, written}
use Rattle.words.proofs.Stretches.{stretch-at}
use Rattle.words.proofs.Repeats.{Writes, primitive_is, is_primitive}
use Rattle.words.proofs.Claims.{PrimitiveString, stretch-length, stands-written, written_at, written-writes, primitive_means}
use Rattle.words_claims.specs.Claims.{root}
use Rattle.words_claims.proofs.Roots.{root-some, root_high, root-writes, root-primitive, root-only}

module _ (x : List ℕ) (i p : ℕ) (h : 1 ≤ p) (f : i + p ≤ suc (length x)) where
  -- what writes the motif by its length, as a string
  writes-written : (d : ℕ) → 1 ≤ d → Writes x i p d → stretch x p i ≡ written (p / d) (stretch x d i)
  writes-written d a w = ap (λ (v : ℕ). stretch x v i) (omega (arith, div-add-mod p d, w.0)) ∙ stands-written x i d (p / d) a w.1

  pub root-written : stretch x p i ≡ written (p / root x i p) (stretch x (root x i p) i)
  root-written = writes-written (root x i p) (root-some x i p h) (root-writes x i p h f)

  pub root_string : PrimitiveString (stretch x (root x i p) i)
  root_string = (primitive_means x i (root x i p) (root-some x i p h) (omega (arith, root_high x i p h))).0 (is_primitive x i (root x i p) (root-primitive x i p h f))

  -- a string that writes the motif is its front
  written-front : (u : List ℕ) (k : ℕ) → stretch x p i ≡ written k u → u ≡ stretch x (length u) i
  written-front u k e = ext_get_or 0 u (stretch x (length u) i) (sym (stretch-length x (length u) i)) cell
    where
      total : p ≡ length u * k
      total = (written-writes x i p u k h f e).1

      some : (k : ℕ) → p ≡ length u * k → 1 ≤ k
      some zero q = absurd (omega arith)
      some (suc k) q = omega arith

      cell : (m : ℕ) → m < length u → get_or u m 0 ≡ get_or (stretch x (length u) i) m 0
      cell m l =
          let one : 1 ≤ k = some k total in
          let inside : m < p = omega (arith, total, mul-le-mul_left (length u) one) in
          sym (written_at k u 0 m one l)
          ∙ ap (λ (v : ℕ). get_or (written k u) v 0) (omega arith)
          ∙ ap (λ (v : List ℕ). get_or v m 0) (sym e)
          ∙ stretch-at x p i m inside
          ∙ sym (stretch-at x (length u) i m l)

  -- the root is the only primitive string that writes the motif
  pub root_is_the_only : (u : List ℕ) (k : ℕ) → stretch x p i ≡ written k u → PrimitiveString u → u ≡ stretch x (root x i p) i
  root_is_the_only u k e n =
      let w = written-writes x i p u k h f e in
      let q : u ≡ stretch x (length u) i = written-front u k e in
      let prim : primitive x i (length u) ≡ true = (primitive_means x i (length u) w.0 (omega (arith, le_of_dvd h (dvd_of_mod-eq-zero (length u) w.2.0)))).1 (rw q at n) in
      q ∙ ap (λ (d : ℕ). stretch x d i) (root-only x i p h f (length u) w.0 w.2 (primitive_is x i (length u) prim))
