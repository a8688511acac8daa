-- The pass that links a table, from the last position down: what the arrays hold before it, after one position more, and at the end.
-- Assumes nothing.
use Prim.Native.Nat.{ℕ, suc, ◌-◌, ◌≤◌, ◌<◌}
use mathlib.Core.Path.{◌≡◌, sym, ◌∙◌}
use mathlib.Core.Logic.{⊎_elim}
use mathlib.Core.Bool.{true, false}
use mathlib.Core.List.{List}
use native.Mathlib.Omega.{arith}
use lib.ListN.{length, length-take, replicate, length-replicate, get_or-replicate}
use lib.Dec.{eqb}
use borrow.Author.Tests.{eqb-true, eqb-false}
use Rattle.words.specs.Reads.{at}
use Rattle.words.proofs.Tests.{either}
use Rattle.slots.specs.Slots.{put, view}
use Rattle.slots.proofs.Laws.{put-length, put_same, put_other, view-at}
use Rattle.bench_links.specs.Links.{next_in, Bare, Linked}
use Rattle.bench_links.proofs.Nexts.{next-none, next_here, next_on}

-- what the arrays hold on the way, from the last position down to the one after i
pub record Linking (t head after : List ℕ) (i : ℕ) : Type 0 where
  pub lh : length head ≡ 1000
  pub la : length after ≡ 1000
  pub first : (s : ℕ) → 1 ≤ s → s ≤ length t → at head s ≡ next_in t s i
  pub next : (j : ℕ) → i < j → j ≤ length t → at after j ≡ next_in t (at t j) j

module _ (t head after : List ℕ) where
  -- no place is a list of none
  pub linked_none : Linked t head after 0
  linked_none =
      record {
        lh = omega arith;
        la = omega arith;
        heads = λ s a b. absurd (omega arith);
        nexts = λ i a b. absurd (omega arith);
      }

  pub linked_all : length t ≤ 1000 → Linking t head after 0 → Linked t head after (length t)
  unfolding view
  linked_all h l =
      let n = length t in
      record {
        lh = omega (arith, l.lh);
        la = omega (arith, l.la);
        heads = λ s a b. let c : s ≤ n = omega (arith, b, length-take n head) in view-at n head s a c ∙ l.first s a c;
        nexts = λ i a b. let c : i ≤ n = omega (arith, b, length-take n after) in view-at n after i a c ∙ l.next i a c;
      }

  pub linking_none : length t ≤ 1000 → Bare head after → Linking t head after (length t)
  linking_none h b =
      record {
        lh = b.lh;
        la = b.la;
        first = λ s a c. b.none s a (omega arith) ∙ sym (next-none t s (length t) (suc (length t)) (omega arith) (λ k x y. absurd (omega arith)));
        next = λ j a c. absurd (omega arith);
      }

  -- position i is of the group named s
  module _ (i j s : ℕ) (q : suc j ≡ i) (b : i ≤ length t) (few : length t ≤ 1000) (e : at t i ≡ s) (low : 1 ≤ s) (high : s ≤ length t)
      (l : Linking t head after i) where
    first_one : (r : ℕ) → 1 ≤ r → r ≤ length t → at (put head s i) r ≡ next_in t r j
    first_one r a c =
        ⊎_elim
        (λ (d : eqb r s ≡ true).
        let f = eqb-true r s d in
        rw f (put_same head s i low (omega (arith, l.lh)) ∙ sym (next_here t s i j q b e)))
        (λ (d : eqb r s ≡ false).
        let f = eqb-false r s d in
        put_other head s i r low a f ∙ l.first r a c ∙ sym (next_on t r i j q (λ g. f (sym g ∙ e))))
        (either (eqb r s))

    next_one : (k : ℕ) → j < k → k ≤ length t → at (put after i (at head s)) k ≡ next_in t (at t k) k
    next_one k a c =
        ⊎_elim
        (λ (d : eqb k i ≡ true).
        let f = eqb-true k i d in
        rw f (put_same after i (at head s) (omega arith) (omega (arith, l.la)) ∙ l.first s low high ∙ rw e))
        (λ (d : eqb k i ≡ false).
        let f = eqb-false k i d in
        put_other after i (at head s) k (omega arith) (omega arith) f ∙ l.next k (omega (arith, f)) c)
        (either (eqb k i))

    pub linking_one : Linking t (put head s i) (put after i (at head s)) j
    linking_one =
        record {
          lh = put-length head s i ∙ l.lh;
          la = put-length after i (at head s) ∙ l.la;
          first = first_one;
          next = next_one;
        }

-- two arrays as a caller makes them
pub bare_zeros : Bare (replicate 1000 0) (replicate 1000 0)
unfolding at
bare_zeros =
    record {
      lh = length-replicate {A = ℕ} 1000 0;
      la = length-replicate {A = ℕ} 1000 0;
      none = λ s a b. get_or-replicate {A = ℕ} 1000 (s - 1) 0 0 (omega arith);
    }
