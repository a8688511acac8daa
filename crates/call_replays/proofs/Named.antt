-- The names of width 1, one position more at a time: a position is named as the last before it that has its letter, or is the first of its group.
-- Assumes nothing.
use Prim.Native.Nat.{ℕ, ◌+◌, ◌≤◌, ◌<◌}
use mathlib.Core.Path.{◌≡◌, sym, ◌∙◌}
use mathlib.Core.Logic.{⊎_elim}
use mathlib.Core.List.{List}
use native.Mathlib.Omega.{arith}
use native.Mathlib.Nat.{eq-or-lt_of_le}
use lib.ListN.{length, replicate}
use borrow.Author.Tests.{lt-ltb, le-ltb}
use Rattle.words.specs.Reads.{at, letter}
use Rattle.words.specs.Groups.{table}
use Rattle.words.proofs.Tests.{lt_or_ge}
use Rattle.words.proofs.Groups.{table-length}
use Rattle.slots.specs.Slots.{put, view}
use Rattle.slots.proofs.Laws.{put-length, put_same, put_other, view_is}
use Rattle.read_letters.specs.Seen.{Latest, Seen}
use Rattle.read_letters.proofs.Kept.{seen_start}
use Rattle.read_letters.proofs.Joins.{last_joined, last_none}
use Rattle.call_replays.specs.Named.{name_after, Named}

module _ (name : List ℕ) (l i : ℕ) where
  pub name-joined : 0 < l → name_after name l i ≡ at name l
  unfolding name_after
  name-joined h = rw (lt-ltb 0 l h)

  pub name-own : l ≤ 0 → name_after name l i ≡ i
  unfolding name_after
  name-own h = rw (le-ltb 0 l h)

-- l is the last of the first i positions that has the letter of the next one, and seen' is kept after that one
module _ (x name seen seen' : List ℕ) (i l : ℕ) (last : Latest x i (letter x (i + 1)) l) (kept : Seen x (i + 1) seen') (N : Named x name seen i)
    (inside : i < length x) (few : i < 1000) where
  -- so it has its name, or is its own
  name_is : at (table x 1) (i + 1) ≡ name_after name l (i + 1)
  name_is =
      ⊎_elim
      (λ h. sym (last_joined x i l last (omega arith) h) ∙ sym (N.made l h last.high) ∙ sym (name-joined name l (i + 1) h))
      (λ h. last_none x i l last (omega arith) (omega arith) ∙ sym (name-own name l (i + 1) h))
      (lt_or_ge 0 l)

  named_step : Named x (put name (i + 1) (name_after name l (i + 1))) seen' (i + 1)
  named_step =
      let v : ℕ = name_after name l (i + 1) in
      record {
        long = put-length name (i + 1) v ∙ N.long;
        made = λ j a m. ⊎_elim
            (λ (q : j ≡ i + 1). rw q (put_same name (i + 1) v (omega arith) (omega (arith, N.long)) ∙ sym name_is))
            (λ h. put_other name (i + 1) v j (omega arith) a (omega arith) ∙ N.made j a (omega arith))
            (eq-or-lt_of_le m);
        met = kept;
      }

  -- as the code names it
  pub named_joined : 1 ≤ l → (s : ℕ) → s ≡ at name l → Named x (put name (i + 1) s) seen' (i + 1)
  named_joined h s e = let q = e ∙ sym (name-joined name l (i + 1) h) in rw q named_step

  pub named_own : l ≡ 0 → Named x (put name (i + 1) (i + 1)) seen' (i + 1)
  named_own z = rw (name-own name l (i + 1) (omega arith)) at named_step

pub named_start : (x name : List ℕ) → length name ≡ 1000 → Named x name (replicate {A = ℕ} 256 0) 0
named_start x name long = record { long = long; made = λ j a b. absurd (omega arith); met = seen_start x }

pub named_end : (x name seen : List ℕ) (n : ℕ) → length x ≡ n → n ≤ 1000 → Named x name seen n → view n name ≡ table x 1
named_end x name seen n e few N = view_is n name (table x 1) (table-length x 1 ∙ e) (omega (arith, N.long)) N.made
