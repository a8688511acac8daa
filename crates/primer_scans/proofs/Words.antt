-- For each set the letters of a primer that let it in, one set, and then one letter more at a time. Assumes nothing.
use Prim.Native.Nat.{ℕ, ◌+◌, ◌<◌}
use mathlib.Core.Path.{◌≡◌, refl, sym, subst, ◌∙◌}
use mathlib.Core.Logic.{◌⊎◌, inl, inr, by_cases}
use mathlib.Core.Bool.{true, false}
use mathlib.Core.List.{List}
use native.Mathlib.Omega.{arith}
use native.Mathlib.Decide.{ℕ_discrete}
use lib.ListN.{get_or, set, replicate, length-set, length-replicate, get_or-replicate}
use lib.Seq.{get_or-set_same, get_or-set_other}
use lib.Bits.{bit_or}
use Rattle.bits.specs.Bits.{has, Bit}
use Rattle.bits.proofs.Digits.{single, or_bit}
use Rattle.bits.proofs.Having.{has-none, has-set, has_other}
use Rattle.words.proofs.Tests.{either, clash}
use Rattle.words_primers.specs.Bases.{set_of, matches}
use Rattle.words_primers.specs.Primers.{longest}
use Rattle.primer_scans.specs.Fronts.{Words, Noted, Lets, AllLet}

-- ---- one letter, set by set

module _ (p k : ℕ) (a : List ℕ) where
  pub noted_start : Words a → Noted p k 0 a a
  noted_start W = record { words = W; hit = λ s l h t. absurd (omega arith); miss = λ s l h f. absurd (omega arith); rest = λ s l h. refl }

  module _ (n : ℕ) (b : List ℕ) (N : Noted p k n a b) (low : n < 16) where
    -- the next set matches
    pub noted_yes : k < longest → matches n p ≡ true → Noted p k (n + 1) a (set b n (bit_or (get_or b n 0) (single k)))
    noted_yes few t =
        let w : ℕ = bit_or (get_or b n 0) (single k) in
        let B : Bit longest (get_or b n 0) w k 1 = or_bit longest (get_or b n 0) k few (omega arith) (N.words.fits n low) in
        let here : get_or (set b n w) n 0 ≡ w = get_or-set_same b n w 0 (omega (arith, N.words.long, low)) in
        let other : (s : ℕ) → (s ≡ n → ⊥) → get_or (set b n w) s 0 ≡ get_or b s 0 = λ s ne. get_or-set_other b n s w 0 ne in
        record {
          words = record {
            long = length-set b n w ∙ N.words.long;
            fits = λ s l. by_cases (ℕ_discrete s n) (λ (e : s ≡ n). rw (e, here) B.fits) (λ ne. rw (other s ne) (N.words.fits s l));
          };
          hit = λ s l h q. by_cases (ℕ_discrete s n) (λ (e : s ≡ n). rw (e, here, ← N.rest n low (omega arith)) B) (λ ne. rw (other s ne) (N.hit s l (omega arith) q));
          miss = λ s l h q. by_cases (ℕ_discrete s n) (λ (e : s ≡ n). clash t (subst (λ (v : ℕ). matches v p ≡ false) e q)) (λ ne. other s ne ∙ N.miss s l (omega arith) q);
          rest = λ s l h. other s (λ e. omega (arith, e, h)) ∙ N.rest s l (omega arith);
        }

    -- it does not
    pub noted_no : matches n p ≡ false → Noted p k (n + 1) a b
    noted_no f =
        record {
          words = N.words;
          hit = λ s l h q. by_cases (ℕ_discrete s n) (λ (e : s ≡ n). clash (subst (λ (v : ℕ). matches v p ≡ true) e q) f) (λ ne. N.hit s l (omega arith) q);
          miss = λ s l h q. by_cases (ℕ_discrete s n) (λ (e : s ≡ n). rw e (N.rest n low (omega arith))) (λ ne. N.miss s l (omega arith) q);
          rest = λ s l h. N.rest s l (omega arith);
        }

-- ---- all letters

module _ (u : List ℕ) where
  -- of no letter none lets in
  pub all_start : AllLet u 0 (replicate 16 0)
  all_start =
      record {
        words = record { long = length-replicate {A = ℕ} 16 0; fits = λ s l. rw (get_or-replicate {A = ℕ} 16 s 0 0 l) (omega arith) };
        each = λ s l. rw (get_or-replicate {A = ℕ} 16 s 0 0 l) (record { each = λ k h. absurd (omega arith); none = λ k h. has-none k });
      }

  module _ (s k w v : ℕ) (L : Lets u s k w) where
    lets_yes : Bit longest w v k 1 → matches s (set_of (get_or u k 0)) ≡ true → Lets u s (k + 1) v
    lets_yes B t =
        record {
          each = λ j h.
              by_cases (ℕ_discrete j k)
              (λ (e : j ≡ k). subst (λ (i : ℕ). has v i ≡ matches s (set_of (get_or u i 0))) (sym e) (has-set longest w v k B ∙ sym t))
              (λ ne. has_other longest w v k B j ne ∙ L.each j (omega arith));
          none = λ j h. has_other longest w v k B j (λ e. omega (arith, e, h)) ∙ L.none j (omega arith);
        }

    lets_no : v ≡ w → matches s (set_of (get_or u k 0)) ≡ false → Lets u s (k + 1) v
    lets_no q f =
        rw q
        (record {
          each = λ j h.
              by_cases (ℕ_discrete j k)
              (λ (e : j ≡ k). subst (λ (i : ℕ). has w i ≡ matches s (set_of (get_or u i 0))) (sym e) (L.none k (omega arith) ∙ sym f))
              (λ ne. L.each j (omega arith));
          none = λ j h. L.none j (omega arith);
        })

  -- one letter more
  pub all_more : (k : ℕ) (a b : List ℕ) → AllLet u k a → Noted (set_of (get_or u k 0)) k 16 a b → AllLet u (k + 1) b
  all_more k a b A N = record { words = N.words; each = λ s l. go s l (either (matches s (set_of (get_or u k 0)))) }
    where
      go : (s : ℕ) → s < 16 → (matches s (set_of (get_or u k 0)) ≡ true) ⊎ (matches s (set_of (get_or u k 0)) ≡ false) → Lets u s (k + 1) (get_or b s 0)
      go s l (inl t) = lets_yes s k (get_or a s 0) (get_or b s 0) (A.each s l) (N.hit s l l t) t
      go s l (inr f) = lets_no s k (get_or a s 0) (get_or b s 0) (A.each s l) (N.miss s l l f) f
