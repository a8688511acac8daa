-- How long a text can be, so that a caller can make room for it: the texts of a range by the longest of them, and a row of u16 numbers,
-- each of at most 5 digits and the byte after it. Assumes nothing.
use Prim.Native.Nat.{ℕ, ◌+◌, ◌*◌, ◌^◌, ◌≤◌, ◌<◌}
use mathlib.Core.List.{List}
use native.Mathlib.Omega.{arith}
use lib.ListN.{length, get_or}
use Rattle.words.specs.Range.{sum, gather}
use Rattle.words.proofs.Sums.{length-gather, sum_le, sum_const}
use Rattle.text_puts.specs.Numbers.{ending, cell_text, numbers_text}
use Rattle.text_puts.proofs.Decimals.{number_length}

-- the texts of a range, each within a bound
pub gather-bound : (f : ℕ → List ℕ) (d j c : ℕ) → ((k : ℕ) → j ≤ k → k < j + d → length (f k) ≤ c) → length (gather f d j) ≤ d * c
gather-bound f d j c h =
    let s : sum (λ k. length (f k)) d j ≤ sum (λ k. c) d j = sum_le (λ k. length (f k)) (λ k. c) d j h in
    rw (length-gather f d j) (rw (sum_const c d j) at s)

pub numbers_bound : (l : List ℕ) → ((i : ℕ) → i < length l → get_or l i 0 < 2 ^ 16) → length (numbers_text l) ≤ length l * 6
unfolding numbers_text cell_text
numbers_bound l h =
    gather-bound (cell_text l) (length l) 0 6 (λ i a b. number_length (get_or l i 0) 5 (ending l i) (omega arith) (omega (arith, h i (omega arith))))
