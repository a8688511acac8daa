-- What is read after the stores of one move. Assumes nothing.
use Prim.Native.Nat.{ℕ, ◌+◌, ◌≤◌}
use mathlib.Core.Path.{◌≡◌}
use mathlib.Core.Logic.{⊎_elim, ◌≢◌}
use mathlib.Core.List.{List}
use native.Mathlib.Omega.{arith}
use lib.ListN.{length}
use borrow.Author.Tests.{lt-ltb, le-ltb}
use Rattle.words.specs.Reads.{at}
use Rattle.words.proofs.Tests.{lt_or_ge}
use Rattle.slots.specs.Slots.{put}
use Rattle.slots.proofs.Laws.{put-length, put_same, put_other}
use Rattle.step6_leave.specs.Links.{put_ahead, joined}

module _ (a : List ℕ) (i d v : ℕ) where
  pub ahead_is : 1 ≤ d → put_ahead a i d v ≡ put a (i + d) v
  unfolding put_ahead
  ahead_is h = rw (lt-ltb 0 d h)

  pub ahead_none : d ≡ 0 → put_ahead a i d v ≡ a
  unfolding put_ahead
  ahead_none e = rw (le-ltb 0 d (omega arith))

  pub ahead-length : length (put_ahead a i d v) ≡ length a
  ahead-length = ⊎_elim (λ l. rw (ahead_is l) (put-length a (i + d) v)) (λ l. rw (ahead_none (omega arith))) (lt_or_ge 0 d)

  pub ahead-same : 1 ≤ d → i + d ≤ length a → at (put_ahead a i d v) (i + d) ≡ v
  ahead-same h l = rw (ahead_is h) (put_same a (i + d) v (omega arith) l)

  pub ahead_other : (k : ℕ) → 1 ≤ k → (1 ≤ d → k ≢ i + d) → at (put_ahead a i d v) k ≡ at a k
  ahead_other k h ne = ⊎_elim (λ l. rw (ahead_is l) (put_other a (i + d) v k (omega arith) h (ne l))) (λ l. rw (ahead_none (omega arith))) (lt_or_ge 0 d)

pub joined-some : (e d : ℕ) → 1 ≤ d → joined e d ≡ e + d
unfolding joined
joined-some e d h = rw (lt-ltb 0 d h)

pub joined-none : (e d : ℕ) → d ≤ 0 → joined e d ≡ 0
unfolding joined
joined-none e d h = rw (le-ltb 0 d h)

pub joined-most : (e d m : ℕ) → e + d ≤ m → joined e d ≤ m
joined-most e d m h = ⊎_elim (λ l. rw (joined-some e d l) h) (λ l. rw (joined-none e d l) (omega arith)) (lt_or_ge 0 d)
