-- Links that lead over places to an end lead over each place once: so a list is no longer than there are places, and a store elsewhere leaves it. Assumes nothing.
use Prim.Native.Nat.{ℕ, zero, suc, ◌+◌, ◌-◌, ◌≤◌, ◌<◌}
use mathlib.Core.Path.{◌≡◌, refl, sym, ap, ◌∙◌}
use mathlib.Core.Bool.{Bool, true, false, ◌&&◌, not}
use mathlib.Core.Logic.{◌⊎◌, inl, inr, ⊎_elim}
use mathlib.Core.List.Memᴰ
use mathlib.Core.List.{List, [], ◌∷◌, Memᴰ}
use native.Mathlib.Omega.{arith}
use lib.ListN.{length}
use lib.Dec.{eqb}
use borrow.Author.Tests.{lt-ltb, le-ltb, eq-eqb, ne_eqb, eqb-true}
use Rattle.words.specs.Range.{bit, count}
use Rattle.words.specs.Reads.{at}
use Rattle.words.proofs.Tests.{either}
use Rattle.words.proofs.Sums.{count_apart, count_one, count_le}
use Rattle.slots.specs.Slots.{put}
use Rattle.slots.proofs.Laws.{put_other}
use Rattle.step3_lists.specs.Lists.{Place, Chain}
use Rattle.step3_lists.specs.Walk.{walk}

module _ (after : List ℕ) where
  pub chain_low : (l : List ℕ) (h : ℕ) → Chain after h l → h ≤ 1000
  unfolding Chain
  chain_low [] h c = omega (arith, c)
  chain_low (i ∷ l) h c = omega (arith, c.0, c.1.1)

  pub chain-none : (l : List ℕ) (h : ℕ) → Chain after h l → h ≡ 0 → l ≡ []
  unfolding Chain
  chain-none [] h c z = refl
  chain-none (i ∷ l) h c z = absurd (omega (arith, c.0, c.1.0))

  -- a place on a list has a link
  pub chain_place : (l : List ℕ) (h : ℕ) → Chain after h l → (i : ℕ) → Memᴰ i l → Place i × (1 ≤ at after i)
  unfolding Chain
  chain_place [] h c i m = absurd (Memᴰ.not-nil m)
  chain_place (j ∷ l) h c i m = ⊎_elim (λ e. rw e (c.1, c.2)) (λ t. chain_place l (at after j - 1) c.3 i t) (Memᴰ.cases_cons m)

  pub chain-put : (l : List ℕ) (h i v : ℕ) → 1 ≤ i → (Memᴰ i l → ⊥) → Chain after h l → Chain (put after i v) h l
  unfolding Chain
  chain-put [] h i v a n c = c
  chain-put (j ∷ l) h i v a n c =
      let e : at (put after i v) j ≡ at after j = put_other after i v j a c.1.0 (λ q. n (Memᴰ.head (sym q))) in
      (c.0, c.1, rw e c.2, rw e (chain-put l (at after j - 1) i v a (λ m. n (Memᴰ.tail m)) c.3))

  -- ---- each place once

  chain_length : (l m : List ℕ) (h : ℕ) → Chain after h l → Chain after h m → length l ≡ length m
  unfolding Chain
  chain_length [] [] h c d = refl
  chain_length [] (j ∷ m) h c d = absurd (omega (arith, c, d.0, d.1.0))
  chain_length (i ∷ l) [] h c d = absurd (omega (arith, d, c.0, c.1.0))
  chain_length (i ∷ l) (j ∷ m) h c d =
      let e : j ≡ i = sym d.0 ∙ c.0 in
      ap suc (chain_length l m (at after i - 1) c.3 (rw e at d.3))

  -- the list from one of its places on
  chain_from : (l : List ℕ) (h i : ℕ) → Chain after h l → Memᴰ i l → (m : List ℕ) × Chain after i (i ∷ m) × (length m < length l)
  unfolding Chain
  chain_from [] h i c x = absurd (Memᴰ.not-nil x)
  chain_from (j ∷ l) h i c x =
      ⊎_elim
      (λ e. (l, rw e (refl, c.1, c.2, c.3), omega arith))
      (λ t. let r = chain_from l (at after j - 1) i c.3 t in (r.0, r.1, omega (arith, r.2)))
      (Memᴰ.cases_cons x)

  pub chain_once : (l : List ℕ) (h i : ℕ) → Chain after h (i ∷ l) → Memᴰ i l → ⊥
  unfolding Chain
  chain_once l h i c x =
      let r = chain_from l (at after i - 1) i c.3 x in
      omega (arith, chain_length l r.0 (at after i - 1) c.3 r.1.3, r.2)

  -- ---- no more than there are places

  chain-count : (l : List ℕ) (h : ℕ) (p : ℕ → Bool) → Chain after h l → ((i : ℕ) → Memᴰ i l → p i ≡ true) → length l ≤ count p 1000 1
  unfolding Chain
  chain-count [] h p c all = omega arith
  chain-count (i ∷ l) h p c all =
      omega (
        arith,
        chain-count l (at after i - 1) rest c.3 (λ k m. rw (all k (Memᴰ.tail m), ne_eqb k i (λ e. chain_once l h i c (rw e at m))) refl),
        count_one (λ k. eqb k i) 1000 1 i c.1.0 (omega (arith, c.1.1)) (eq-eqb i i refl),
        count_apart (λ k. eqb k i) rest p 1000 1 (λ k a b. each k (either (eqb k i))),
      )
    where
      rest : ℕ → Bool
      rest k = p k && not (eqb k i)

      alike : (b : Bool) → 0 + bit (b && true) ≤ bit b
      alike true = omega arith
      alike false = omega arith

      each : (k : ℕ) → (eqb k i ≡ true) ⊎ (eqb k i ≡ false) → bit (eqb k i) + bit (p k && not (eqb k i)) ≤ bit (p k)
      each k (inl e) = rw e (rw (all k (rw (eqb-true k i e) (Memᴰ.head refl))) (omega arith))
      each k (inr e) = rw e (alike (p k))

  chain_few : (l : List ℕ) (h : ℕ) → Chain after h l → length l ≤ 1000
  chain_few l h c = omega (arith, chain-count l h (λ k. true) c (λ i m. refl), count_le (λ k. true) 1000 1)

  -- so a walk comes to all of them

  walk-all : (l : List ℕ) (f h : ℕ) → Chain after h l → length l ≤ f → walk after f h ≡ l
  unfolding Chain walk
  walk-all [] zero h c b = refl
  walk-all [] (suc f) h c b = rw (le-ltb 0 h (omega (arith, c)))
  walk-all (i ∷ l) zero h c b = absurd (omega arith)
  walk-all (i ∷ l) (suc f) h c b =
      rw (lt-ltb 0 h (omega (arith, c.0, c.1.0)), c.0) (ap (λ (m : List ℕ). i ∷ m) (walk-all l f (at after i - 1) c.3 (omega arith)))

  pub chain-walk : (l : List ℕ) (h : ℕ) → Chain after h l → walk after 1000 h ≡ l
  chain-walk l h c = walk-all l 1000 h c (chain_few l h c)

-- and goes on with one place less, whatever is stored at the place that it leaves
pub walk_less : (after l : List ℕ) (h v : ℕ) → Chain after h l → 1 ≤ h → length (walk (put after h v) 1000 (at after h - 1)) < length (walk after 1000 h)
unfolding Chain
walk_less after [] h v c a = absurd (omega (arith, c))
walk_less after (i ∷ l) h v c a =
    let on : Chain (put after h v) (at after h - 1) l =
    rw c.0 (chain-put after l (at after i - 1) i v c.1.0 (chain_once after l h i c) c.3) in
    rw (chain-walk after (i ∷ l) h c, chain-walk (put after h v) l (at after h - 1) on) (omega arith)
