-- Names that are passed in their order: the next least flag stands behind names that give nothing. Assumes nothing.
use Prim.Native.Nat.{ℕ, ◌≤◌}
use mathlib.Core.Path.{◌≡◌, refl, ap, ◌∙◌}
use mathlib.Core.List.{List, ◌++◌}
use native.Mathlib.Omega.{arith}
use lib.ListN.{length, length-append}
use Rattle.words.specs.Range.{gather}
use Rattle.slots.specs.Slots.{view, put}
use Rattle.refine.specs.Refine.{left_of, queue}
use Rattle.refine.specs.Phases.{FlagsOf}
use Rattle.refine.proofs.QueueMoves.{queue_short}
use Rattle.step1_rows.specs.Rows.{row, Long, QUE}
use Rattle.step2_bits.specs.Sets.{Empty, First}
use Rattle.step2_bits.proofs.Emptying.{After, after_none, taken-is, gather_on, taken, gather_all}
use Rattle.step5_queue.specs.Filling.{group_of, Grown, Grouped, Group}
use Rattle.step5_queue.proofs.Growing.{grown_none, grown_join, grown_grouped}
use Rattle.step5_queue.proofs.Lefts.{gather_short, left_of_none, left_of_some, left_of_all, flag-name}

-- the names up to `done` are taken from the flags f: what they give is put at the front of the queue, and `rest` has the flags of those after them
pub record Ahead (t f : List ℕ) (a₀ a : List (List ℕ)) (rest : List ℕ) (k : ℕ) : Type 0 where
  pub done : ℕ
  pub inside : done ≤ 1000
  pub after : After f done rest
  pub grown : Grown a₀ a 0 k (gather (left_of t f) done 1)

module _ (t f : List ℕ) where
  pub ahead_start : (a : List (List ℕ)) → Long a → length f ≡ 1000 → Ahead t f a a f 0
  unfolding gather
  ahead_start a L l = record { done = 0; inside = omega arith; after = after_none f l; grown = grown_none a 0 L }

  module _ (a₀ a : List (List ℕ)) (rest : List ℕ) (k : ℕ) (A : Ahead t f a₀ a rest k) where
    -- ---- the name s is next

    module _ (s : ℕ) (low : 1 ≤ s) (N : First rest s) where
      group_next : gather (left_of t f) s 1 ≡ gather (left_of t f) A.done 1 ++ group_of t s
      group_next =
          gather_on f A.done rest A.after s low N (left_of t f) (λ i b c z. left_of_none t i f z)
          ∙ ap (λ (l : List ℕ). gather (left_of t f) A.done 1 ++ l) (left_of_some t s f (taken-is f A.done rest A.after s low N))

      -- there is room for its group
      pub ahead_group : Grouped t a₀ → FlagsOf t f → Group t a s k
      ahead_group G F =
          let M = flag-name t f F s low N.high (taken-is f A.done rest A.after s low N) in
          record {
            all = grown_grouped a₀ a 0 k (gather (left_of t f) A.done 1) A.grown t G;
            low = low;
            high = M.0;
            named = M.1;
            room = omega (
              arith,
              A.grown.many,
              ap length group_next ∙ length-append (gather (left_of t f) A.done 1) (group_of t s),
              gather_short (left_of t f) s 1000 1 N.high,
              ap length (left_of_all t f F (length t) refl G.few),
              queue_short t (view (length t) f) G.least,
              G.few,
            );
          }

      pub ahead-next : (b : List (List ℕ)) (r : ℕ) → Grown a b k r (group_of t s) → (h : List ℕ) → h ≡ put rest s 0 → Ahead t f a₀ b h r
      ahead-next b r G h e = record {
        done = s;
        inside = N.high;
        after = taken f A.done rest A.after s low N h e;
        grown = rw group_next (grown_join a₀ a b 0 k r (gather (left_of t f) A.done 1) (group_of t s) A.grown G);
      }

    -- ---- there is none: all names are passed

    module _ (E : Empty rest) (n : ℕ) (e : length t ≡ n) (G : Grouped t a₀) (F : FlagsOf t f) where
      all : gather (left_of t f) A.done 1 ≡ queue t (view n f)
      all = gather_all f A.done rest A.after A.inside E (left_of t f) (λ i b c z. left_of_none t i f z) ∙ left_of_all t f F n e (omega (arith, G.few))

      pub ahead-end : (view k (row a QUE) ≡ queue t (view n f)) × (k ≡ length (queue t (view n f)))
      unfolding view
      ahead-end = (A.grown.held ∙ all, rw (← all) (omega (arith, A.grown.many)))

      pub ahead_few : k ≤ 1000
      ahead_few = omega (arith, ahead-end.1, queue_short t (view n f) G.least, G.few)
