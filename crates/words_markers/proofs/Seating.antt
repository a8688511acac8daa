-- The positions between the primers, way by way in the order of the refusals. Assumes nothing.
use Prim.Native.Nat.{ℕ, suc, ◌≤◌, ◌<◌}
use mathlib.Core.Path.{◌≡◌, refl}
use mathlib.Core.Bool.{true, false}
use mathlib.Core.List.{List}
use native.Mathlib.Omega.{arith}
use lib.ListN.{length}
use borrow.Author.Tests.{lt-ltb, le-ltb, eq-eqb, ne_eqb}
use Rattle.std.specs.Prelude.{Ok, Err}
use Rattle.words.specs.Reads.{most}
use Rattle.words.specs.Logs.{within}
use Rattle.words.specs.Calls.{too_long}
use Rattle.words_primers.specs.Primers.{longest, first_foreign, sits, places}
use Rattle.words_primers.proofs.Places.{sits_means, places_exactly}
use Rattle.words_markers.specs.Sites.{none, several, only, seat, behind, seated, seats}
use Rattle.words.specs.declared.Refusal.{Refusal}

module _ (l : List ℕ) where
  pub none_yes : length l ≡ 0 → none l ≡ true
  unfolding none
  none_yes e = eq-eqb (length l) 0 e

  pub none_no : 1 ≤ length l → none l ≡ false
  unfolding none
  none_no h = ne_eqb (length l) 0 (λ e. omega (arith, e, h))

  pub several_yes : 1 < length l → several l ≡ true
  unfolding several
  several_yes h = lt-ltb 1 (length l) h

  pub several_no : length l ≤ 1 → several l ≡ false
  unfolding several
  several_no h = le-ltb 1 (length l) h

-- ---- where a primer sits

module _ (x u : List ℕ) where
  -- the only place of a primer that has one
  pub seat-sits : length (places x u) ≡ 1 → (1 ≤ seat x u) × (sits x u (seat x u) ≡ true)
  unfolding seat only
  seat-sits h = let p = (places_exactly x u (seat x u)).0 (0, omega (arith, h), refl) in (p.0, p.2)

  -- so it ends inside the read
  pub behind-inside : length (places x u) ≡ 1 → behind x u ≤ suc (length x)
  unfolding behind
  behind-inside h = ((sits_means x u (seat x u)).0 (seat-sits h).1).0

-- ---- 10, 11 and 12

module _ (x u v : List ℕ) where
  pub left_missing : length (places x u) ≡ 0 → seated x u v ≡ Err (Refusal.Missing 1)
  unfolding seated
  left_missing a = rw (none_yes (places x u) a)

  pub right_missing : 1 ≤ length (places x u) → length (places x v) ≡ 0 → seated x u v ≡ Err (Refusal.Missing 2)
  unfolding seated
  right_missing a b = rw (none_no (places x u) a, none_yes (places x v) b)

  pub left_often : 1 < length (places x u) → 1 ≤ length (places x v) → seated x u v ≡ Err (Refusal.MoreThanOnce 1)
  unfolding seated
  left_often a b = rw (none_no (places x u) (omega arith), none_no (places x v) b, several_yes (places x u) a)

  pub right_often : length (places x u) ≡ 1 → 1 < length (places x v) → seated x u v ≡ Err (Refusal.MoreThanOnce 2)
  unfolding seated
  right_often a b = rw (none_no (places x u) (omega arith), none_no (places x v) (omega arith), several_no (places x u) (omega arith), several_yes (places x v) b)

  module _ (a : length (places x u) ≡ 1) (b : length (places x v) ≡ 1) where
    pub out_of_order : seat x v < behind x u → seated x u v ≡ Err Refusal.OutOfOrder
    unfolding seated
    out_of_order o = rw (none_no (places x u) (omega arith), none_no (places x v) (omega arith), several_no (places x u) (omega arith), several_no (places x v) (omega arith), lt-ltb (seat x v) (behind x u) o)

    pub in_order_lem : behind x u ≤ seat x v → seated x u v ≡ Ok (record { from = (behind x u); to = (seat x v) })
    unfolding seated
    in_order_lem o = rw (none_no (places x u) (omega arith), none_no (places x v) (omega arith), several_no (places x u) (omega arith), several_no (places x v) (omega arith), le-ltb (seat x v) (behind x u) o)

-- ---- the library's own

module _ (x u v : List ℕ) where
  pub too_long_lem : most < length x → seats x u v ≡ Err (Refusal.TooLong (length x))
  unfolding seats too_long
  too_long_lem h = rw (lt-ltb most (length x) h)

  module _ (few : length x ≤ most) where
    pub left-length : within 1 longest (length u) ≡ false → seats x u v ≡ Err (Refusal.BadLength (length u))
    unfolding seats too_long
    left-length a = rw (le-ltb most (length x) few, a)

    module _ (a : within 1 longest (length u) ≡ true) where
      pub right_length : within 1 longest (length v) ≡ false → seats x u v ≡ Err (Refusal.BadLength (length v))
      unfolding seats too_long
      right_length b = rw (le-ltb most (length x) few, a, b)

      module _ (b : within 1 longest (length v) ≡ true) where
        pub left-foreign : first_foreign u < length u → seats x u v ≡ Err (Refusal.Foreign (first_foreign u))
        unfolding seats too_long
        left-foreign c = rw (le-ltb most (length x) few, a, b, lt-ltb (first_foreign u) (length u) c)

        module _ (c : length u ≤ first_foreign u) where
          pub right_foreign : first_foreign v < length v → seats x u v ≡ Err (Refusal.Foreign (first_foreign v))
          unfolding seats too_long_lem
          right_foreign d = rw (le-ltb most (length x) few, a, b, le-ltb (first_foreign u) (length u) c, lt-ltb (first_foreign v) (length v) d)

          pub judged-seats : length v ≤ first_foreign v → seats x u v ≡ seated x u v
          unfolding seats too_long_lem
          judged-seats d = rw (le-ltb most (length x) few, a, b, le-ltb (first_foreign u) (length u) c, le-ltb (first_foreign v) (length v) d)
