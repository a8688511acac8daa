-- The walk along a group: from its name by the distances, it meets the group's positions in turn, and none stands between two of them.
-- Assumes nothing.
use Prim.Native.Nat.{ℕ, suc, ◌+◌, ◌-◌, ◌≤◌, ◌<◌}
use mathlib.Core.Path.{◌≡◌, sym, ap, subst, ◌∙◌}
use mathlib.Core.Logic.{◌⊎◌, inl, inr}
use mathlib.Core.List.{List, [], ◌∷◌, ◌++◌}
use native.Mathlib.Omega.{arith}
use lib.ListN.{length, length-append}
use borrow.Author.Tests.{lt-ltb, le-ltb}
use Rattle.words.specs.Range.{gather}
use Rattle.words.specs.Reads.{at}
use Rattle.words.specs.Groups.{Least}
use Rattle.words.proofs.Tests.{lt_or_ge}
use Rattle.words.proofs.Ranges.{gather_more, gather_none, gather_parts, gather_stop}
use Rattle.refine.specs.Refine.{left_at}
use Rattle.refine.proofs.Links.{Nearest, gap_nearest}
use Rattle.step1_rows.specs.Rows.{row, put_at, DIST, QUE}
use Rattle.step5_queue.specs.Filling.{left, group_of, Grown, Group, Walked}
use Rattle.step5_queue.proofs.Lefts.{gather_short, left-own, left_other, left-next}
use Rattle.step5_queue.proofs.Growing.{grown_none, grown_put, grown_join, grown_group}

pub left-some : (j : ℕ) → 1 < j → left j ≡ (j - 1) ∷ []
unfolding left
left-some j h = rw (lt-ltb 1 j h)

pub left-none : (j : ℕ) → j ≤ 1 → left j ≡ []
unfolding left
left-none j h = rw (le-ltb 1 j h)

module _ (t : List ℕ) (s : ℕ) where
  -- up to its name a group has no position but that one
  group_begins : Least t → 1 ≤ s → s ≤ length t → at t s ≡ s → gather (left_at t s) (s - 1) 2 ≡ left s
  group_begins L a b e = go (lt_or_ge 1 s)
    where
      go : (1 < s) ⊎ (s ≤ 1) → gather (left_at t s) (s - 1) 2 ≡ left s
      go (inl h) =
          ap (λ (d : ℕ). gather (left_at t s) d 2) (omega arith)
          ∙ gather_more (left_at t s) (s - 2) 2
          ∙ ap (λ (l : List ℕ). l ++ left_at t s (2 + (s - 2)))
          (gather_none (left_at t s) (s - 2) 2 (λ j c d. left_other t s j (λ q. omega (arith, L.high j (omega arith) (omega arith), q))))
          ∙ ap (left_at t s) (omega arith)
          ∙ left-own t s s e
          ∙ sym (left-some s h)
      go (inr h) = gather_none (left_at t s) (s - 1) 2 (λ j c d. absurd (omega arith)) ∙ sym (left-none s h)

  -- the group in parts: its name, and what is after it
  group_parts : Least t → 1 ≤ s → s ≤ length t → at t s ≡ s → group_of t s ≡ left s ++ gather (left_at t s) (length t - s) (suc s)
  unfolding group_of
  group_parts L a b e =
      ap (λ (d : ℕ). gather (left_at t s) d 2) (omega arith)
      ∙ gather_parts (left_at t s) (s - 1) (length t - s) 2
      ∙ ap (λ (l : List ℕ). l ++ gather (left_at t s) (length t - s) (2 + (s - 1))) (group_begins L a b e)
      ∙ ap (λ (j : ℕ). left s ++ gather (left_at t s) (length t - s) j) (omega arith)

  -- room for the group is room for what is after its name
  group_room : (a : List (List ℕ)) (k : ℕ) → Group t a s k → k + length (left s) + length (gather (left_at t s) (length t - s) (suc s)) ≤ 1000
  group_room a k G =
      omega (arith, G.room, ap length (group_parts G.all.least G.low G.high G.named) ∙ length-append (left s) (gather (left_at t s) (length t - s) (suc s)))

  pub left-room : (a : List (List ℕ)) (k : ℕ) → Group t a s k → k + length (left s) ≤ 1000
  left-room a k G = omega (arith, group_room a k G)

  pub walked_start : (a b : List (List ℕ)) (had k d : ℕ) → Group t b s had → Grown a b had k (left s) → d ≡ at (row b DIST) s → Walked t s b k b k s d
  walked_start a b had k d G g e =
      record {
        grown = subst (λ (l : List ℕ). Grown b b k k l) (sym (gather_none (left_at t s) (s - s) (suc s) (λ j c d. absurd (omega arith)))) (grown_none b k g.long);
        room = omega (arith, g.many, group_room b had G);
        low = omega arith;
        high = G.high;
        named = G.named;
        next = e ∙ G.all.gaps.next s G.low G.high;
      }

  module _ (a₀ : List (List ℕ)) (k₀ : ℕ) (a : List (List ℕ)) (k j d : ℕ) (W : Walked t s a₀ k₀ a k j d) where
    nearest : Nearest t j d
    nearest = rw W.next (gap_nearest t j W.high)

    -- where another position follows, it is inside, and there is room for it
    pub walked_inside : j + d ≤ length t
    walked_inside = nearest.high

    pub walked_room : 0 < d → k < 1000
    walked_room h =
        let more : length (gather (left_at t s) (j + d - s) (suc s)) ≡ length (gather (left_at t s) (j - s) (suc s)) + 1 =
        ap length (left-next t s j d W.low W.named nearest h) ∙ length-append (gather (left_at t s) (j - s) (suc s)) ((j + d - 1) ∷ []) in
        omega (arith, W.grown.many, W.room, more, gather_short (left_at t s) (j + d - s) (length t - s) (suc s) (omega (arith, walked_inside)))

    pub walked_next : (b : List (List ℕ)) (had e : ℕ) → Group t a₀ s had → 0 < d → b ≡ put_at a QUE (k + 1) (j + d - 1) → e ≡ at (row b DIST) (j + d) → Walked t s a₀ k₀ b (k + 1) (j + d) e
    walked_next b had e G h q g =
        let P : Grown a₀ b k₀ (k + 1) (gather (left_at t s) (j + d - s) (suc s)) =
        rw (q, left-next t s j d W.low W.named nearest h) (grown_put a₀ a k₀ k (gather (left_at t s) (j - s) (suc s)) (j + d - 1) W.grown (walked_room h)) in
        record {
          grown = P;
          room = W.room;
          low = omega (arith, W.low);
          high = walked_inside;
          named = nearest.same ∙ W.named;
          next = g ∙ (grown_group a₀ b k₀ (k + 1) (gather (left_at t s) (j + d - s) (suc s)) P t s had G).all.gaps.next (j + d) (omega (arith, G.low, W.low)) walked_inside;
        }

    -- where none follows, the whole group is done
    pub walked_end : (b : List (List ℕ)) (had : ℕ) → Group t b s had → d ≡ 0 → Grown b a₀ had k₀ (left s) → Grown b a had k (group_of t s)
    walked_end b had G z g =
        rw (
          group_parts G.all.least G.low G.high G.named,
          gather_stop (left_at t s) (j - s) (length t - s) (suc s) (omega (arith, W.high))
              (λ i l h. left_other t s i (λ q. nearest.end z i (omega (arith, W.low)) (omega arith) (q ∙ sym W.named))),
        )
        (grown_join b a₀ a had k₀ k (left s) (gather (left_at t s) (j - s) (suc s)) g W.grown)
