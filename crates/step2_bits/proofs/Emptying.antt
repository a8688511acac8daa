-- A set that is emptied from its least place on: between two places that are taken one after the other there is none, and each turn leaves fewer.
-- Assumes nothing.
use Prim.Native.Nat.{ℕ, ◌+◌, ◌-◌, ◌≤◌, ◌<◌}
use mathlib.Core.Path.{◌≡◌, refl, sym, ap, ◌∙◌}
use mathlib.Core.Logic.{by_cases, ⊎_elim}
use mathlib.Core.List.{List, [], ◌++◌}
use native.Mathlib.Decide.{ℕ_discrete}
use native.Mathlib.Omega.{arith}
use lib.ListN.{length}
use Rattle.std.specs.Prelude.{sum}
use Rattle.std.proofs.lemmas.List.Sums.{sum_by-set}
use Rattle.words.specs.Range.{gather}
use Rattle.words.specs.Reads.{at}
use Rattle.words.proofs.Ranges.{gather_stop, gather-next}
use Rattle.words.proofs.Tests.{lt_or_ge}
use Rattle.slots.specs.Slots.{put}
use Rattle.slots.proofs.Laws.{put-length, put_same, put_other}
use Rattle.step2_bits.specs.Sets.{Empty, First}

-- g has the places of f after m, and no other
pub record After (f : List ℕ) (m : ℕ) (g : List ℕ) : Type 0 where
  pub long : length g ≡ 1000
  pub gone : (i : ℕ) → 1 ≤ i → i ≤ m → i ≤ 1000 → at g i ≡ 0
  pub rest : (i : ℕ) → m < i → i ≤ 1000 → at g i ≡ at f i

-- none is taken yet
pub after_none : (f : List ℕ) → length f ≡ 1000 → After f 0 f
after_none f e = record { long = e; gone = λ i a b c. absurd (omega arith); rest = λ i a b. refl }

-- the next is taken once those up to m are
module _ (f : List ℕ) (m : ℕ) (g : List ℕ) (A : After f m g) (s : ℕ) (low : 1 ≤ s) (F : First g s) where
  pub taken_on : m < s
  taken_on = ⊎_elim (λ l. l) (λ h. absurd (omega (arith, F.some low, A.gone s low h F.high))) (lt_or_ge m s)

  pub between : (i : ℕ) → m < i → i < s → at f i ≡ 0
  between i a b = sym (A.rest i a (omega (arith, b, F.high))) ∙ F.below i (omega arith) b

  pub taken-is : at f s ≡ 1
  taken-is = sym (A.rest s taken_on F.high) ∙ F.some low

  -- what is gathered at the places of f only
  module _ (h : ℕ → List ℕ) (none : (i : ℕ) → 1 ≤ i → i ≤ 1000 → at f i ≡ 0 → h i ≡ []) where
    pub gather_before : gather h (s - 1) 1 ≡ gather h m 1
    gather_before =
        gather_stop h m (s - 1) 1 (omega (arith, taken_on))
        (λ i a b. none i (omega arith) (omega (arith, b, F.high)) (between i (omega arith) (omega (arith, b))))

    pub gather_on : gather h s 1 ≡ gather h m 1 ++ h s
    gather_on =
        let e : s - 1 + 1 ≡ s = omega arith in
        (rw e at (gather-next h (s - 1))) ∙ ap (λ (l : List ℕ). l ++ h s) gather_before

  pub taken : (h : List ℕ) → h ≡ put g s 0 → After f s h
  taken h e =
      rw e
      (record {
        long = put-length g s 0 ∙ A.long;
        gone = λ i a b c.
            by_cases (ℕ_discrete i s)
            (λ d. rw d (put_same g s 0 low (omega (arith, A.long, F.high))))
            (λ d. put_other g s 0 i low a d ∙ F.below i a (omega (arith, b, d)));
        rest = λ i a b. put_other g s 0 i low (omega arith) (λ d. omega (arith, a, d)) ∙ A.rest i (omega (arith, taken_on, a)) b;
      })

-- no more is left once those up to m are taken
module _ (f : List ℕ) (m : ℕ) (g : List ℕ) (A : After f m g) (inside : m ≤ 1000) (E : Empty g) where
  pub ended : (i : ℕ) → m < i → i ≤ 1000 → at f i ≡ 0
  ended i a b = sym (A.rest i a b) ∙ E.none i (omega arith) b

  pub gather_all : (h : ℕ → List ℕ) → ((i : ℕ) → 1 ≤ i → i ≤ 1000 → at f i ≡ 0 → h i ≡ []) → gather h m 1 ≡ gather h 1000 1
  gather_all h none = sym (gather_stop h m 1000 1 inside (λ i a b. none i (omega arith) (omega arith) (ended i (omega arith) (omega arith))))

-- a loop gets to its end: how many places are left
pub taken_less : (g : List ℕ) → length g ≡ 1000 → (s : ℕ) → 1 ≤ s → First g s → (h : List ℕ) → h ≡ put g s 0 → sum h < sum g
unfolding put at
taken_less g l s low F h e =
    rw e (omega (arith, sum_by-set (λ (x : ℕ). x) g (s - 1) 0 0 (omega (arith, l, F.high)), F.some low))
