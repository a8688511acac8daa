-- The layout of a line: what anything above knows of it. Only this file opens `line_of`, `line_size` and `period_cell`. Assumes nothing.
use Prim.Native.Nat.{ℕ, ◌≤◌, ◌<◌}
use mathlib.Core.Path.{◌≡◌, refl, sym, ap, ◌∙◌}
use mathlib.Core.List.{List}
use native.Mathlib.Omega.{arith}
use lib.ListN.{length, get_or}
use Rattle.words.specs.Rows.{widest, row, cell}
use Rattle.words.specs.Lists.{line_of, line_size, period_cell, start_of, period_of, copies_of}
use Rattle.words.proofs.Rows.{row-cell}

pub line-length : (i p e : ℕ) → length (line_of i p e) ≡ line_size
unfolding line_of line_size
line-length i p e = refl

pub line-some : 1 ≤ line_size
unfolding line_size
line-some = omega arith

-- and few enough that room for 1,000,000 lines can be counted
pub line_few : line_size ≤ widest
unfolding line_size
line_few = omega arith

-- a line tells its start, its period and its copies
pub line_tells : (i p e j q d : ℕ) → line_of i p e ≡ line_of j q d → (i ≡ j) × (p ≡ q) × (e ≡ d)
unfolding line_of
line_tells i p e j q d h = (ap (λ (l : List ℕ). get_or l 0 0) h, ap (λ (l : List ℕ). get_or l 1 0) h, ap (λ (l : List ℕ). get_or l 2 0) h)

-- the period stands in the line
pub period_inside : period_cell < line_size
unfolding period_cell line_size
period_inside = omega arith

-- what a line says of its start, its period and its copies
pub line_says : (l : List ℕ) (k i p e : ℕ) → row line_size l k ≡ line_of i p e → (start_of l k ≡ i) × (period_of l k ≡ p) × (copies_of l k ≡ e)
unfolding start_of period_of copies_of line_of line_size period_cell
line_says l k i p e h = (
  sym (row-cell 3 l k 0 (omega arith)) ∙ ap (λ (r : List ℕ). get_or r 0 0) h,
  sym (row-cell 3 l k 1 (omega arith)) ∙ ap (λ (r : List ℕ). get_or r 1 0) h,
  sym (row-cell 3 l k 2 (omega arith)) ∙ ap (λ (r : List ℕ). get_or r 2 0) h,
)

pub line_period : (l : List ℕ) (k i p e : ℕ) → row line_size l k ≡ line_of i p e → cell line_size l k period_cell ≡ p
unfolding period_of
line_period l k i p e h = (line_says l k i p e h).1
