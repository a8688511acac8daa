-- The root of a motif, by its length: it is the least that writes the motif, it is primitive, no other primitive one writes the motif, and it is the whole motif if and only
-- if that is primitive. Assumes nothing.
use Prim.Native.Nat.{ℕ, suc, ◌+◌, ◌-◌, ◌*◌, ◌/◌, ◌%◌, ◌≤◌, ◌<◌, ◌∣◌}
use mathlib.Core.Path.{◌≡◌, sym, ap, subst, ◌∙◌}
use mathlib.Core.Logic.{⊎_elim, ◌↔◌}
use mathlib.Core.Bool.{true}
use mathlib.Core.List.{List}
use native.Mathlib.Omega.{arith}
use native.Mathlib.Nat.{div-add-mod, mod_self, mod-lt, mod-eq_of_lt, add-mod_right, mod-mod_of_dvd, mul-div_cancel', dvd_of_mod-eq-zero, mod-eq-zero_of_dvd, dvd_trans, dvd-mul_right, le_of_dvd}
use lib.ListN.{length}
use Rattle.words.specs.Reads.{letter}
use Rattle.words.specs.Repeats.{writes, primitive}
use Rattle.words.proofs.Tests.{clash, lt_or_ge}
use Rattle.words.proofs.Ranges.{found, Found}
use Rattle.words.proofs.Repeats.{Folds, stands_folds, folds_stands, Writes, writes_is, is_writes, Primitive, primitive_is, is_primitive}
use Rattle.words.proofs.Periods.{Period, Common, common, period_times}
use Rattle.words_claims.specs.Claims.{root}

module _ (x : List ℕ) (i : ℕ) where
  -- what writes p letters folds them
  pub writes_folds : (p d : ℕ) → 1 ≤ d → Writes x i p d → Folds x i d p
  writes_folds p d a w k l = stands_folds x i d (p / d) a w.1 k (omega (arith, div-add-mod p d, w.0))

  folds_writes : (p d : ℕ) → d ∣ p → i + p ≤ suc (length x) → Folds x i d p → Writes x i p d
  folds_writes p d c f g =
      let whole : d * (p / d) ≡ p = mul-div_cancel' d c in
      (mod-eq-zero_of_dvd d c, folds_stands x i d (p / d) (omega (arith, whole)) (λ k l. g k (omega (arith, whole))))

  -- every stretch that fits is itself, written once
  pub writes_self : (p : ℕ) → 1 ≤ p → i + p ≤ suc (length x) → Writes x i p p
  writes_self p h f = folds_writes p p (dvd_of_mod-eq-zero p (mod_self p)) f (λ k l. ap (λ (v : ℕ). letter x (i + v)) (sym (mod-eq_of_lt l)))

module _ (x : List ℕ) (i p : ℕ) (h : 1 ≤ p) where
  sought : Found (writes x i p) (p - 1) 1 (root x i p)
  unfolding root
  sought = found (writes x i p) (p - 1) 1

  pub root-some : 1 ≤ root x i p
  root-some = sought.low

  pub root_high : root x i p ≤ p
  root_high = omega (arith, sought.high)

  pub root-least : (d : ℕ) → 1 ≤ d → Writes x i p d → root x i p ≤ d
  root-least d a w = ⊎_elim (λ l. clash (is_writes x i p d w) (sought.least d a l)) (λ l. l) (lt_or_ge d (root x i p))

  module _ (f : i + p ≤ suc (length x)) where
    pub root-writes : Writes x i p (root x i p)
    root-writes =
        ⊎_elim
        (λ l. writes_is x i p (root x i p) (sought.pass l))
        (λ l. let e : root x i p ≡ p = omega (arith, l, root_high) in rw e (writes_self x i p h f))
        (lt_or_ge (root x i p) (1 + (p - 1)))

    divides : (d : ℕ) → Writes x i p d → d ∣ p
    divides d w = dvd_of_mod-eq-zero d w.0

    -- what writes the root writes the motif
    pub root-primitive : Primitive x i (root x i p)
    root-primitive d a b e s = omega (arith, root-least d a (folds_writes x i p d (dvd_trans d inner (divides (root x i p) root-writes)) f folds), b)
      where
        inner : d ∣ root x i p
        inner = dvd_of_mod-eq-zero d e

        folds : Folds x i d p
        folds k l =
            writes_folds x i p (root x i p) root-some root-writes k l
            ∙ writes_folds x i (root x i p) d a (e, s) (k % root x i p) (mod-lt k root-some)
            ∙ ap (λ (v : ℕ). letter x (i + v)) (mod-mod_of_dvd d k inner)

    -- the motif, turned round and round: what writes it is a period of that
    turn : ℕ → ℕ
    turn k = letter x (i + k % p)

    turn_low : (k : ℕ) → k < p → turn k ≡ letter x (i + k)
    unfolding turn
    turn_low k l = rw (mod-eq_of_lt l)

    turn_period : (d : ℕ) → 1 ≤ d → Writes x i p d → Period turn d
    unfolding turn
    turn_period d a w k =
        let c : d ∣ p = divides d w in
        writes_folds x i p d a w ((k + d) % p) (mod-lt (k + d) h)
        ∙ ap (λ (v : ℕ). letter x (i + v)) (mod-mod_of_dvd d (k + d) c ∙ add-mod_right k d ∙ sym (mod-mod_of_dvd d k c))
        ∙ sym (writes_folds x i p d a w (k % p) (mod-lt k h))

    -- a period of it that divides p writes the motif
    period_writes : (d : ℕ) → 1 ≤ d → d ∣ p → Period turn d → Writes x i p d
    period_writes d a c per = folds_writes x i p d c f folds
      where
        folds : Folds x i d p
        folds k l =
            sym (turn_low k l)
            ∙ ap turn (sym (div-add-mod k d) ∙ omega arith)
            ∙ period_times turn d per (k / d) (k % d)
            ∙ turn_low (k % d) (omega (arith, mod-lt k a, le_of_dvd h c))

    -- two lengths that write the motif have a common divisor that does, so that the root divides each
    root_divides : (d : ℕ) → 1 ≤ d → Writes x i p d → root x i p ∣ d
    root_divides d a w = go (common turn (d + root x i p) d (root x i p) (omega arith) a root-some (turn_period d a w) (turn_period (root x i p) root-some root-writes))
      where
        go : Common turn d (root x i p) → root x i p ∣ d
        go c =
            let cd : c.d ∣ d = subst (λ (v : ℕ). c.d ∣ v) c.left (dvd-mul_right c.d c.s) in
            let cr : c.d ∣ root x i p = subst (λ (v : ℕ). c.d ∣ v) c.right (dvd-mul_right c.d c.t) in
            let up : root x i p ≤ c.d = root-least c.d c.pos (period_writes c.d c.pos (dvd_trans c.d cd (divides d w)) c.period) in
            let same : c.d ≡ root x i p = omega (arith, le_of_dvd root-some cr) in
            rw same at cd

    -- so it is the only one that is primitive
    pub root-only : (d : ℕ) → 1 ≤ d → Writes x i p d → Primitive x i d → d ≡ root x i p
    root-only d a w prim =
        let c : root x i p ∣ d = root_divides d a w in
        let low : root x i p ≤ d = le_of_dvd a c in
        let fits : i + d ≤ suc (length x) = omega (arith, le_of_dvd h (divides d w)) in
        let g : Folds x i (root x i p) d = λ k l. writes_folds x i p (root x i p) root-some root-writes k (omega (arith, l, le_of_dvd h (divides d w))) in
        let v : Writes x i d (root x i p) = folds_writes x i d (root x i p) c fits g in
        ⊎_elim (λ l. absurd (prim (root x i p) root-some l v.0 v.1)) (λ l. omega arith) (lt_or_ge (root x i p) d)

    -- and the whole motif if and only if that is primitive
    pub root_whole : (primitive x i p ≡ true) ↔ (root x i p ≡ p)
    root_whole = (
      λ t. sym (root-only p h (writes_self x i p h f) (primitive_is x i p t)),
      λ e. is_primitive x i p (rw e at root-primitive),
    )
