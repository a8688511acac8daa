-- How long a text can be, so that a caller can make room for it: a u16 has at most 5 digits. Assumes nothing.
use Prim.Native.Nat.{ℕ, ◌+◌, ◌*◌, ◌^◌, ◌≤◌, ◌<◌}
use mathlib.Core.Path.{◌≡◌}
use mathlib.Core.Logic.{⊎_elim}
use mathlib.Core.Bool.{Bool, true, false}
use mathlib.Core.List.{List}
use native.Mathlib.Omega.{arith}
use lib.ListN.{length, get_or, drop, length-append, length-take}
use lib.Dec.{eqb}
use Rattle.words.specs.Rows.{widest, rows, row}
use Rattle.words.specs.Reads.{most}
use Rattle.words.specs.Lists.{line_size}
use Rattle.words.specs.Moves.{move_size}
use Rattle.words.proofs.Tests.{either}
use Rattle.words.proofs.Rows.{row_get_or}
use Rattle.words.proofs.LineLayout.{line_few}
use Rattle.words_runs.specs.Runs.{run_size}
use Rattle.words_runs.proofs.RunLayout.{run_few}
use Rattle.text_puts.specs.Ascii.{ascii}
use Rattle.text_puts.specs.Numbers.{space, newline}
use Rattle.text_puts.proofs.Decimals.{number_length}
use Rattle.text_puts.proofs.Bounds.{gather-bound, numbers_bound}
use Rattle.text_bytes.proofs.Bytes.{bytes_bound}
use Rattle.text_groups.proofs.Bounds.{groups-bound, alone-bound}
use Rattle.text_moves.proofs.Bounds.{moves-bound}
use Rattle.text_views.specs.Views.{row_text, rows_text, width_text, width_room, head_text, verdict_text, accord_text}

row_short : (c : ℕ) (l : List ℕ) (k : ℕ) → length (row c l k) ≤ c
unfolding row
row_short c l k = rw (length-take c (drop (c * k) l)) (omega arith)

-- rows of any size, behind a word of at most 9 bytes
module _ (word : List ℕ) (c : ℕ) (l : List ℕ) (brief : length word ≤ 9) (narrow : c ≤ widest) (small : (i : ℕ) → get_or l i 0 < 2 ^ 16) where
  row-bound : (k : ℕ) → length (row_text word c l k) ≤ 9 + 6 * widest
  unfolding row_text
  row-bound k =
      let short : length (row c l k) ≤ c = row_short c l k in
      simp length-append
      (omega (arith, brief, narrow, short, numbers_bound (row c l k) (λ i b. rw (row_get_or c l k i (omega (arith, b, short))) (small (c * k + i)))))

  rows_bound : length (rows_text word c l) ≤ (9 + 6 * widest) * rows c l
  unfolding rows_text
  rows_bound = omega (arith, gather-bound (row_text word c l) (rows c l) 0 (9 + 6 * widest) (λ k a b. row-bound k))

-- the text of one width
pub width_bound : (w : ℕ) (t moves lines runs : List ℕ) → w < 2 ^ 64 → length t ≤ most
    → ((i : ℕ) → get_or moves i 0 < 2 ^ 16) → ((i : ℕ) → get_or lines i 0 < 2 ^ 16) → ((i : ℕ) → get_or runs i 0 < 2 ^ 16)
    → length (width_text w t moves lines runs) ≤ width_room (length t) (rows move_size moves) (rows line_size lines) (rows run_size runs)
unfolding width_text width_room ascii
width_bound w t moves lines runs h few a b d =
    simp length-append
    (omega (
      arith,
      number_length w 20 newline (omega arith) (omega arith),
      groups-bound t few,
      alone-bound t few,
      moves-bound moves a,
      rows_bound (ascii "  repeat ") line_size lines (omega arith) line_few b,
      rows_bound (ascii "  run ") run_size runs (omega arith) run_few d,
    ))

-- the first line and the last two
pub head_bound : (x : List ℕ) → length x < 2 ^ 64 → length (head_text x) ≤ 4 * length x + 27
unfolding head_text ascii
head_bound x h = simp length-append (omega (arith, number_length (length x) 20 space (omega arith) (omega arith), bytes_bound x))

pub verdict-bound : (w : ℕ) → w < 2 ^ 64 → length (verdict_text w) ≤ 64
unfolding verdict_text ascii
verdict-bound w h =
    ⊎_elim
    (λ (t : eqb w 0 ≡ true). rw t (omega arith))
    (λ (t : eqb w 0 ≡ false). rw t (omega (arith, number_length w 20 newline (omega arith) (omega arith))))
    (either (eqb w 0))

pub accord_bound : (b : Bool) → length (accord_text b) ≤ 64
unfolding accord_text ascii
accord_bound true = omega arith
accord_bound false = omega arith
