-- What the replay answers and leaves, way by way: each refusal at its place in the order, and the table otherwise. Assumes nothing.
use Prim.Native.Nat.{ℕ, ◌≤◌, ◌<◌}
use mathlib.Core.Path.{◌≡◌, refl, sym}
use mathlib.Core.Bool.{true, false, ◌||◌, not}
use mathlib.Core.List.{List, ◌++◌}
use native.Mathlib.Omega.{arith}
use lib.ListN.{length, drop}
use lib.Dec.{eqb}
use borrow.Author.Tests.{lt-ltb, le-ltb, eqb-false, not-false}
use Rattle.words.specs.Moves.{top_of}
use Rattle.words.specs.Replay.{replay}
use Rattle.words.specs.Logs.{within, first_bad, well_formed}
use Rattle.words.specs.Answers.{Answer, success, refusal}
use Rattle.words.specs.Calls.{refuse, too_long, replay_answer, replay_leaves}
use Rattle.words.proofs.Tests.{or_fails_left, or_fails_right}
use Rattle.words.proofs.Within.{within_is}
use Rattle.words.proofs.Afterwards.{refused-same, success-front}
use Rattle.words.proofs.Replay.{replay-least}

-- ---- the tests

-- a width that is not bad is one of the log's tables
pub width_inside : (n w : ℕ) → eqb n 0 || not (within 1 (top_of n) w) ≡ false → (1 ≤ n) × (1 ≤ w) × (w ≤ top_of n)
width_inside n w e =
    let t = within 1 (top_of n) w in
    let some : n ≡ 0 → ⊥ = eqb-false n 0 (or_fails_left (eqb n 0) (not t) e) in
    let inside = within_is 1 (top_of n) w (not-false t (or_fails_right (eqb n 0) (not t) e)) in
    (omega arith, inside.0, inside.1)

-- ---- the ways

module _ (x l : List ℕ) (w : ℕ) (out : List ℕ) where
  -- a call that answers a and leaves o
  abbrev pub Gives : Answer → List ℕ → Type 0
  Gives a o = (a ≡ replay_answer x l w out) × (o ≡ replay_leaves x l w out)

  -- every refusal leaves the slice as it is
  refused_gives : (k v : ℕ) → eqb k 0 ≡ false → refusal k v ≡ replay_answer x l w out → Gives (refusal k v) out
  unfolding replay_leaves
  refused_gives k v z e = (e, rw (← e) (sym (refused-same (replay x l w) out k v z)))

  pub long_said : 1000 < length x → Gives (refusal 1 (length x)) out
  unfolding replay_answer refuse too_long
  long_said a = refused_gives 1 (length x) refl (rw (lt-ltb 1000 (length x) a) refl)

  module _ (short : length x ≤ 1000) where
    pub width_said : eqb (length x) 0 || not (within 1 (top_of (length x)) w) ≡ true → Gives (refusal 2 w) out
    unfolding replay_answer refuse too_long
    width_said b = refused_gives 2 w refl (rw (le-ltb 1000 (length x) short, b) refl)

    module _ (wide : eqb (length x) 0 || not (within 1 (top_of (length x)) w) ≡ false) where
      pub room_said : length out < length x → Gives (refusal 4 (length x)) out
      unfolding replay_answer refuse too_long
      room_said a = refused_gives 4 (length x) refl (rw (le-ltb 1000 (length x) short, wide, lt-ltb (length out) (length x) a) refl)

      module _ (room : length x ≤ length out) where
        pub entry_said : well_formed (length x) l ≡ false → Gives (refusal 5 (first_bad (length x) l)) out
        unfolding replay_answer refuse too_long
        entry_said f =
            refused_gives 5 (first_bad (length x) l) refl (rw (le-ltb 1000 (length x) short, wide, le-ltb (length out) (length x) room, f) refl)

        pub names_said : well_formed (length x) l ≡ true → (o : List ℕ) → o ≡ replay x l w ++ drop (length x) out → Gives (success (length x)) o
        unfolding replay_answer replay_leaves refuse too_long
        names_said t o f =
            rw (le-ltb 1000 (length x) short, wide, le-ltb (length out) (length x) room, t)
            (refl, rw (success-front (replay x l w) out (length x), (replay-least x l w).1) f)
