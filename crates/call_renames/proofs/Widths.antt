-- A table split by the marks of a width is the next one of the replay. Assumes nothing.
use Prim.Native.Nat.{ℕ, ◌≤◌}
use mathlib.Core.Path.{◌≡◌, ◌∙◌}
use mathlib.Core.List.{List}
use native.Mathlib.Omega.{arith}
use lib.ListN.{length}
use Rattle.words.specs.Range.{leader}
use Rattle.words.specs.Replay.{stays, after}
use Rattle.words.proofs.Ranges.{column-same, leader_agrees}
use Rattle.slots.specs.Slots.{view}
use Rattle.slots.proofs.Laws.{view-length}
use Rattle.call_renames.specs.Blocks.{Marks}
use Rattle.call_renames.specs.Split.{joint, split, Groups}
use Rattle.call_renames.proofs.Leading.{split-least}

pub split_after : (n : ℕ) (old mark l : List ℕ) (v : ℕ) → Groups n old → Marks l v mark → (u : List ℕ) → u ≡ split (view n old) mark → u ≡ after (view n old) l v
unfolding split after
split_after n old mark l v G M u e =
    e
    ∙ column-same (leader (joint t mark)) (leader (stays t l v)) (length t)
    (λ i a b. leader_agrees (joint t mark) (stays t l v) i (λ j c d. agrees j i c (omega (arith, few)) a (omega (arith, few))))
  where
    t : List ℕ
    t = view n old

    few : length t ≤ 1000
    few = omega (arith, view-length n old (omega (arith, G.few, G.long)), G.few)

    agrees : (i j : ℕ) → 1 ≤ i → i ≤ 1000 → 1 ≤ j → j ≤ 1000 → joint t mark i j ≡ stays t l v i j
    agrees i j a b c d = unfold joint stays in rw (M.held i a b, M.held j c d)

pub split-groups : (n : ℕ) (t mark name : List ℕ) → n ≤ 1000 → length name ≡ 1000 → view n name ≡ split t mark → Groups n name
split-groups n t mark name few long e = record { few = few; long = long; least = rw e (split-least t mark) }
