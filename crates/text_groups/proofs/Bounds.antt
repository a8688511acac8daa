-- How long the text of the groups can be: a position of a read has at most 4 digits, and each position stands in one group at most.
-- Assumes nothing.
use Prim.Native.Nat.{ℕ, zero, suc, ◌+◌, ◌*◌, ◌^◌, ◌≤◌, ◌<◌}
use mathlib.Core.Path.{◌≡◌, ap}
use mathlib.Core.Logic.{⊎_elim}
use mathlib.Core.Bool.{Bool, true, false, cond}
use mathlib.Core.List.{List, [], ◌∷◌, ◌++◌}
use native.Mathlib.Omega.{arith}
use lib.ListN.{length, length-append}
use lib.Dec.{eqb, leb}
use borrow.Author.Tests.{eqb-true, ne_eqb}
use Rattle.words.specs.Range.{sum, bit, count}
use Rattle.words.specs.Reads.{most, at}
use Rattle.words.specs.Groups.{size}
use Rattle.words.proofs.Tests.{either, bit_le}
use Rattle.words.proofs.Sums.{sum_le, sum-add, sum_const, sum_times, sum_swap, sum-zero, length-gather}
use Rattle.text_puts.specs.Ascii.{ascii}
use Rattle.text_puts.specs.Numbers.{space, decimal, number_text}
use Rattle.text_puts.proofs.Decimals.{number_length}
use Rattle.text_puts.proofs.Bounds.{gather-bound}
use Rattle.text_groups.specs.Groups.{colon, spaced, shown, member_text, members_text, group_text, groups_text, alone, single_text, singles_text, alone_text}

-- a text that is put on a condition
pub cond-bound : (b : Bool) (l : List ℕ) (c : ℕ) → length l ≤ c → length (cond b l []) ≤ c
cond-bound true l c h = h
cond-bound false l c h = omega arith

-- a number after a space is as long as a number and a byte after it
pub spaced-bound : (n k : ℕ) → 1 ≤ k → n < 10 ^ k → length (spaced n) ≤ k + 1
unfolding spaced number_text
spaced-bound n k a b = omega (arith, length-append (space ∷ []) (decimal n), length-append (decimal n) (space ∷ []), number_length n k space a b)

shown-bound : (b : Bool) (j : ℕ) → j ≤ most → length (shown b j) ≤ 5 * bit b
unfolding shown
shown-bound true j h = spaced-bound j 4 (omega arith) (omega arith)
shown-bound false j h = omega arith

-- a number equals one number of a range at most
once : (v d j : ℕ) → sum (λ s. bit (eqb v s)) d j ≤ 1
unfolding sum
once v zero j = omega arith
once v (suc d) j =
    ⊎_elim
    (λ (t : eqb v j ≡ true).
    let e = eqb-true v j t in
    let z : sum (λ s. bit (eqb v s)) d (suc j) ≡ 0 =
    sum-zero (λ s. bit (eqb v s)) d (suc j) (λ k a b. ap bit (ne_eqb v k (λ q. omega (arith, e, q, a)))) in
    rw t (omega (arith, z)))
    (λ (t : eqb v j ≡ false). rw t (omega (arith, once v d (suc j))))
    (either (eqb v j))

module _ (t : List ℕ) (few : length t ≤ most) where
  members_bound : (s : ℕ) → length (members_text t s) ≤ 5 * size t s
  unfolding members_text member_text size count
  members_bound s =
      rw (length-gather (member_text t s) (length t) 1, ← sum_times 5 (λ j. bit (eqb (at t j) s)) (length t) 1)
      (sum_le (λ j. length (member_text t s j)) (λ j. 5 * bit (eqb (at t j) s)) (length t) 1 (λ j a b. shown-bound (eqb (at t j) s) j (omega arith)))

  group_bound : (s : ℕ) → s ≤ most → length (group_text t s) ≤ 14 + 5 * size t s
  unfolding group_text ascii
  group_bound s h =
      cond-bound (leb 2 (size t s)) (ascii "  group " ++ number_text s colon ++ members_text t s ++ ascii "\n") (14 + 5 * size t s)
      (simp length-append (omega (arith, members_bound s, number_length s 4 colon (omega arith) (omega arith))))

  -- each position is in one group at most
  sizes_bound : sum (size t) (length t) 1 ≤ length t
  unfolding size count
  sizes_bound =
      let swap = sum_swap (λ s j. bit (eqb (at t j) s)) (length t) 1 (length t) 1 in
      let ones : sum (λ j. sum (λ s. bit (eqb (at t j) s)) (length t) 1) (length t) 1 ≤ sum (λ j. 1) (length t) 1 =
      sum_le (λ j. sum (λ s. bit (eqb (at t j) s)) (length t) 1) (λ j. 1) (length t) 1 (λ j a b. once (at t j) (length t) 1) in
      omega (arith, swap, ones, sum_const 1 (length t) 1)

  pub groups-bound : length (groups_text t) ≤ 19 * length t
  unfolding groups_text
  groups-bound =
      let parts : sum (λ s. length (group_text t s)) (length t) 1 ≤ sum (λ s. 14 + 5 * size t s) (length t) 1 =
      sum_le (λ s. length (group_text t s)) (λ s. 14 + 5 * size t s) (length t) 1 (λ s a b. group_bound s (omega arith)) in
      omega (
        arith,
        parts,
        length-gather (group_text t) (length t) 1,
        sum-add (λ s. 14) (λ s. 5 * size t s) (length t) 1,
        sum_const 14 (length t) 1,
        sum_times 5 (size t) (length t) 1,
        sizes_bound,
      )

  single-bound : (j : ℕ) → j ≤ most → length (single_text t j) ≤ 5
  unfolding single_text
  single-bound j h = omega (arith, shown-bound (alone t j) j h, bit_le (alone t j))

  pub alone-bound : length (alone_text t) ≤ 5 * length t + 9
  unfolding alone_text singles_text ascii
  alone-bound =
      cond-bound (leb 1 (count (alone t) (length t) 1)) (ascii "  alone:" ++ singles_text t ++ ascii "\n") (5 * length t + 9)
      (simp length-append (omega (arith, gather-bound (single_text t) (length t) 1 5 (λ j a b. single-bound j (omega arith)))))
