-- Who waits, when a place gets another distance or another list, or when a width is behind. Assumes nothing.
use Prim.Native.Nat.{ℕ, suc, ◌≤◌}
use mathlib.Core.Path.{◌≡◌}
use mathlib.Core.Logic.{◌≢◌}
use mathlib.Core.List.{List}
use native.Mathlib.Omega.{arith}
use lib.ListN.{length}
use Rattle.words.specs.Reads.{at}
use Rattle.slots.specs.Slots.{put}
use Rattle.slots.proofs.Laws.{put-each}
use Rattle.step3_lists.specs.Lists.{Place}
use Rattle.step3_lists.specs.Waits.{Waits}

-- each place is on the list of its own distance
pub waits_own : (own : List ℕ) → ((i : ℕ) → Place i → at own i ≤ 1000) → Waits 1 1 own (at own) (at own)
waits_own own l = record { low = l; above = λ i p a. a; there = λ i p a. a; early = λ i p a b. omega arith }

module _ {b c : ℕ} {own : List ℕ} {last : ℕ → ℕ} (dist : List ℕ) (W : Waits b c own (at dist) last) where
  module _ (i d : ℕ) (p : Place i) where
    -- i gets the distance d
    pub waits_dist : length dist ≡ 1000 → d ≤ 1000 → (c ≤ d → 1 ≤ at own i) → Waits b c own (at (put dist i d)) last
    waits_dist l h f =
        let m : i ≤ length dist = omega (arith, p.1) in
        record {
          low = λ k q. put-each dist i d (λ j v. Place j → v ≤ 1000) p.0 m (λ z. h) (λ j y n. W.low j) k q.0 q;
          above = W.above;
          there = λ k q. put-each dist i d (λ j v. Place j → c ≤ v → 1 ≤ at own j) p.0 m (λ z. f) (λ j y n. W.there j) k q.0 q;
          early = W.early;
        }

    -- i is on the list of d, 0 for none
    pub waits_on : length own ≡ 1000 → (1 ≤ d → b ≤ d) → (c ≤ at dist i → 1 ≤ d) → (1 ≤ d → 1 ≤ last i → d ≤ last i) → Waits b c (put own i d) (at dist) last
    waits_on l f g h =
        let m : i ≤ length own = omega (arith, p.1) in
        record {
          low = W.low;
          above = λ k q. put-each own i d (λ j v. Place j → 1 ≤ v → b ≤ v) p.0 m (λ z. f) (λ j y n. W.above j) k q.0 q;
          there = λ k q. put-each own i d (λ j v. Place j → c ≤ at dist j → 1 ≤ v) p.0 m (λ z. g) (λ j y n. W.there j) k q.0 q;
          early = λ k q. put-each own i d (λ j v. Place j → 1 ≤ v → 1 ≤ last j → v ≤ last j) p.0 m (λ z. h) (λ j y n. W.early j) k q.0 q;
        }

-- while the list of w is passed those of distance w need not wait
pub waits_begin : {w : ℕ} {own : List ℕ} {dist last : ℕ → ℕ} → Waits w w own dist last → Waits w (suc w) own dist last
waits_begin W = record { low = W.low; above = W.above; there = λ i p m. W.there i p (omega arith); early = W.early }

-- once it is empty the lists begin after w
pub waits_end : {w : ℕ} {own : List ℕ} {dist last : ℕ → ℕ} → Waits w (suc w) own dist last → ((i : ℕ) → Place i → at own i ≢ w) → Waits (suc w) (suc w) own dist last
waits_end W ne = record { low = W.low; above = λ i p m. omega (arith, ne i p, W.above i p m); there = W.there; early = W.early }
