-- What is read after a store. Assumes nothing.
use Prim.Native.Nat.{ℕ, suc, ◌-◌, ◌≤◌, ◌<◌}
use mathlib.Core.Path.{◌≡◌, sym, ap, ◌∙◌}
use mathlib.Core.Logic.{⊎_elim, by_cases, ◌≢◌}
use mathlib.Core.List.{List}
use native.Mathlib.Omega.{arith}
use native.Mathlib.Decide.{ℕ_discrete}
use lib.ListN.{length, length-set, get_or, take}
use lib.Seq.{get_or-set_same, get_or-set_other, set-get_or, set-set, set_comm, get_or-take, length-take-le, ext_get_or}
use borrow.Author.Tests.{lt-ltb, le-ltb}
use Rattle.words.specs.Reads.{at}
use Rattle.words.proofs.Tests.{lt_or_ge}
use Rattle.slots.specs.Slots.{put, put_some, view}

module _ (a : List ℕ) (i v : ℕ) where
  pub put-length : length (put a i v) ≡ length a
  unfolding put
  put-length = length-set a (i - 1) v

  pub put_same : 1 ≤ i → i ≤ length a → at (put a i v) i ≡ v
  unfolding put at
  put_same h l = get_or-set_same a (i - 1) v 0 (omega arith)

  pub put_other : (j : ℕ) → 1 ≤ i → 1 ≤ j → j ≢ i → at (put a i v) j ≡ at a j
  unfolding put at
  put_other j h l ne = get_or-set_other a (i - 1) (j - 1) v 0 (λ e. ne (omega arith))

  -- what holds of the number stored and of all others holds of all
  pub put-each : (P : ℕ → ℕ → Type 0) → 1 ≤ i → i ≤ length a → P i v → ((k : ℕ) → 1 ≤ k → k ≢ i → P k (at a k)) → (k : ℕ) → 1 ≤ k → P k (at (put a i v) k)
  put-each P h l p q k m = by_cases (ℕ_discrete k i) (λ e. rw (e, put_same h l) p) (λ n. rw (put_other k h m n) (q k m n))

  -- the last of two stores at one place stands, a store of what stands there is none, and two at two places may be made in any order
  pub put-again : (w : ℕ) → put (put a i v) i w ≡ put a i w
  unfolding put
  put-again w = set-set a (i - 1) v w

  pub put_held : at a i ≡ v → put a i v ≡ a
  unfolding put at
  put_held e = rw (← e) (set-get_or a (i - 1) 0)

  pub put_swap : (j w : ℕ) → 1 ≤ i → 1 ≤ j → j ≢ i → put (put a i v) j w ≡ put (put a j w) i v
  unfolding put
  put_swap j w h l ne = set_comm a (i - 1) (j - 1) v w (λ e. ne (omega arith))

-- a store that may be none
module _ (a : List ℕ) (j v : ℕ) where
  pub some_is : 1 ≤ j → put_some a j v ≡ put a j v
  unfolding put_some
  some_is h = rw (lt-ltb 0 j h)

  pub some-none : j ≡ 0 → put_some a j v ≡ a
  unfolding put_some
  some-none e = rw (le-ltb 0 j (omega arith))

  pub some-length : length (put_some a j v) ≡ length a
  some-length = ⊎_elim (λ l. rw (some_is l) (put-length a j v)) (λ l. rw (some-none (omega arith))) (lt_or_ge 0 j)

  pub some_same : 1 ≤ j → j ≤ length a → at (put_some a j v) j ≡ v
  some_same h l = rw (some_is h) (put_same a j v h l)

  pub some_other : (k : ℕ) → 1 ≤ k → k ≢ j → at (put_some a j v) k ≡ at a k
  some_other k h ne = ⊎_elim (λ l. rw (some_is l) (put_other a j v k l h ne)) (λ l. rw (some-none (omega arith))) (lt_or_ge 0 j)

module _ (n : ℕ) (a : List ℕ) where
  pub view-length : n ≤ length a → length (view n a) ≡ n
  unfolding view
  view-length h = length-take-le n a h

  pub view-at : (i : ℕ) → 1 ≤ i → i ≤ n → at (view n a) i ≡ at a i
  unfolding view at
  view-at i h l = get_or-take n a (i - 1) 0 (omega arith)

  -- the places 1 to n hold a list of n numbers
  pub view_is : (l : List ℕ) → length l ≡ n → n ≤ length a → ((i : ℕ) → 1 ≤ i → i ≤ n → at a i ≡ at l i) → view n a ≡ l
  unfolding view at
  view_is l e h same =
      ext_get_or 0 (take n a) l (length-take-le n a h ∙ sym e)
      (λ i b.
      let c : i < n = rw (length-take-le n a h) at b in
      get_or-take n a i 0 c ∙ ap (λ (k : ℕ). get_or a k 0) (omega arith) ∙ same (suc i) (omega arith) c ∙ ap (λ (k : ℕ). get_or l k 0) (omega arith))
