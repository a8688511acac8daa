-- What a position, a name and all names give to the queue, by its definition. Assumes nothing.
use Prim.Native.Nat.{ℕ, suc, ◌+◌, ◌-◌, ◌≤◌, ◌<◌}
use mathlib.Core.Path.{◌≡◌, sym, ap, ◌∙◌}
use mathlib.Core.Logic.{⊎_elim, ◌≢◌}
use mathlib.Core.List.{List, [], ◌∷◌, ◌++◌}
use native.Mathlib.Omega.{arith}
use lib.ListN.{length, length-append}
use borrow.Author.Tests.{eq-eqb, ne_eqb}
use Rattle.words.specs.Range.{gather}
use Rattle.words.specs.Reads.{at}
use Rattle.words.proofs.Ranges.{gather-same, gather_more, gather_parts, gather_stop}
use Rattle.slots.specs.Slots.{view}
use Rattle.slots.proofs.Laws.{view-at}
use Rattle.refine.specs.Refine.{left_at, left_of, queue}
use Rattle.refine.specs.Phases.{FlagsOf}
use Rattle.refine.proofs.Links.{Nearest}
use Rattle.step5_queue.specs.Filling.{group_of}

-- a part of a range gives no more than all of it
pub gather_short : (f : ℕ → List ℕ) (d e j : ℕ) → d ≤ e → length (gather f d j) ≤ length (gather f e j)
gather_short f d e j h =
    let q : d + (e - d) ≡ e = omega arith in
    omega (
      arith,
      ap (λ (v : ℕ). length (gather f v j)) q,
      ap length (gather_parts f d (e - d) j) ∙ length-append (gather f d j) (gather f (e - d) (j + d)),
    )

module _ (t : List ℕ) (s : ℕ) where
  pub left-own : (j : ℕ) → at t j ≡ s → left_at t s j ≡ (j - 1) ∷ []
  unfolding left_at
  left-own j e = rw (eq-eqb (at t j) s e)

  pub left_other : (j : ℕ) → at t j ≢ s → left_at t s j ≡ []
  unfolding left_at
  left_other j ne = rw (ne_eqb (at t j) s ne)

  -- the next position of the group adds one
  pub left-next : (j d : ℕ) → s ≤ j → at t j ≡ s → Nearest t j d → 0 < d → gather (left_at t s) (j + d - s) (suc s) ≡ gather (left_at t s) (j - s) (suc s) ++ ((j + d - 1) ∷ [])
  left-next j d a e N h =
      ap (λ (v : ℕ). gather (left_at t s) v (suc s)) (omega arith)
      ∙ gather_more (left_at t s) (j + (d - 1) - s) (suc s)
      ∙ ap (λ (l : List ℕ). l ++ left_at t s (suc s + (j + (d - 1) - s)))
      (gather_stop (left_at t s) (j - s) (j + (d - 1) - s) (suc s) (omega arith) (λ k b c. left_other k (λ q. N.free k (omega arith) (omega arith) (q ∙ sym e))))
      ∙ ap (λ (v : ℕ). gather (left_at t s) (j - s) (suc s) ++ left_at t s v) (omega arith)
      ∙ ap (λ (l : List ℕ). gather (left_at t s) (j - s) (suc s) ++ l) (left-own (j + d) (N.same ∙ e))

  left_of_same : (f g : List ℕ) → at f s ≡ at g s → left_of t f s ≡ left_of t g s
  unfolding left_of
  left_of_same f g e = rw e

  pub left_of_none : (f : List ℕ) → at f s ≡ 0 → left_of t f s ≡ []
  unfolding left_of
  left_of_none f e = rw e

  pub left_of_some : (f : List ℕ) → at f s ≡ 1 → left_of t f s ≡ group_of t s
  unfolding left_of group_of
  left_of_some f e = rw e

module _ (t f : List ℕ) (F : FlagsOf t f) where
  -- what is flagged is a name
  pub flag-name : (s : ℕ) → 1 ≤ s → s ≤ 1000 → at f s ≡ 1 → (s ≤ length t) × (at t s ≡ s)
  flag-name s a b e = ⊎_elim (λ z. absurd (omega arith)) (λ o. (o.1, o.2)) (F.flag s a b)

  flag_beyond : (s : ℕ) → length t < s → s ≤ 1000 → at f s ≡ 0
  flag_beyond s a b = ⊎_elim (λ z. z) (λ o. absurd (omega (arith, o.1))) (F.flag s (omega arith) b)

  -- the whole queue
  pub left_of_all : (n : ℕ) → length t ≡ n → n ≤ 1000 → gather (left_of t f) 1000 1 ≡ queue t (view n f)
  unfolding queue
  left_of_all n e h =
      gather_stop (left_of t f) (length t) 1000 1 (omega arith) (λ s a b. left_of_none t s f (flag_beyond s (omega arith) (omega arith)))
      ∙ gather-same (left_of t f) (left_of t (view n f)) (length t) 1 (λ s a b. left_of_same t s f (view n f) (sym (view-at n f s a (omega arith))))
