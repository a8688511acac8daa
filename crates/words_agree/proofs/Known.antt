-- Known reads, by computation from the definitions: what their runs give, and what is told of lists that do not agree. Assumes nothing.
use Prim.Native.Nat.{ℕ}
use mathlib.Core.Path.{◌≡◌, refl}
use mathlib.Core.Bool.{true, false}
use mathlib.Core.List.{List, [], ◌∷◌}
use Rattle.words.specs.Range.{first, every, gather}
use Rattle.words.specs.Rows.{rows, cell}
use Rattle.words.specs.ByPeriod.{row_if, rows_at, by_period}
use Rattle.words.specs.Reads.{at, letter_of, letter, same}
use Rattle.words.specs.Lists.{line_of}
use Rattle.words_runs.specs.Runs.{again, periodic, least_period, repetition, left_ends, right_ends, run, reach, run_of, run_size, run_period_cell, run_start, run_end, run_period, run_begins, run_at, runs}
use Rattle.words_agree.specs.Agree.{covers, whole_periods, counts, holds, counted_by, lies_in}
use Rattle.words_agree.specs.Lists.{line_by, lines_by, lines_by_row, lines_by_runs, agree}

-- document 02's read
abbrev ACACACA : List ℕ
ACACACA = 65 ∷ 67 ∷ 65 ∷ 67 ∷ 65 ∷ 67 ∷ 65 ∷ []

-- two runs of one period that overlap
abbrev AACAACCACC : List ℕ
AACAACCACC = 65 ∷ 65 ∷ 67 ∷ 65 ∷ 65 ∷ 67 ∷ 67 ∷ 65 ∷ 67 ∷ 67 ∷ []

abbrev AAAA : List ℕ
AAAA = 65 ∷ 65 ∷ 65 ∷ 65 ∷ []

pub record Known : Type 0 where
  -- its one run gives four lines: three whole copies of AC and of CA, then two of each
  pub partial : lines_by_runs (runs ACACACA) ≡ 1 ∷ 2 ∷ 3 ∷ 2 ∷ 2 ∷ 3 ∷ 3 ∷ 2 ∷ 2 ∷ 4 ∷ 2 ∷ 2 ∷ []
  -- a copy that is not whole does not count, and fewer than two are no repeat
  pub counted : (counted_by ACACACA 1 7 1 2 3 ≡ true) × (counted_by ACACACA 1 7 1 2 4 ≡ false) × (counted_by ACACACA 1 7 1 2 2 ≡ false) × (counted_by ACACACA 1 7 5 2 1 ≡ false)
  -- AAAA has the period 2 too, but its least is 1
  pub least : (counted_by AAAA 1 4 1 1 4 ≡ true) × (counted_by AAAA 1 4 1 2 2 ≡ false)
  -- the two runs of period 3 overlap, and no repeat lies in both
  pub overlap : (lies_in AACAACCACC 1 6 1 3 2 ≡ true) × (lies_in AACAACCACC 5 10 1 3 2 ≡ false) × (lies_in AACAACCACC 5 10 5 3 2 ≡ true) × (lies_in AACAACCACC 1 6 5 3 2 ≡ false)
  -- lists that do not agree: a copy more, a line missing, one too many, a run of a list that is cut short
  pub differ : (agree (1 ∷ 2 ∷ 4 ∷ 2 ∷ 2 ∷ 3 ∷ 3 ∷ 2 ∷ 2 ∷ 4 ∷ 2 ∷ 2 ∷ []) (1 ∷ 7 ∷ 2 ∷ []) ≡ false)
      × (agree (1 ∷ 2 ∷ 3 ∷ 2 ∷ 2 ∷ 3 ∷ 3 ∷ 2 ∷ 2 ∷ []) (1 ∷ 7 ∷ 2 ∷ []) ≡ false)
      × (agree (1 ∷ 1 ∷ 2 ∷ 2 ∷ 1 ∷ 2 ∷ []) (1 ∷ 2 ∷ 1 ∷ []) ≡ false)
      × (agree (1 ∷ 1 ∷ 2 ∷ []) (1 ∷ 2 ∷ []) ≡ false)
  -- of an empty read, and lists that no read has: a period of 0, an end before the start
  pub edges : (agree [] [] ≡ true) × (agree [] (1 ∷ 7 ∷ 0 ∷ []) ≡ true) × (agree [] (7 ∷ 1 ∷ 1 ∷ []) ≡ true)

pub known : Known
unfolding first every gather row_if rows_at by_period at letter_of letter same rows cell line_of again periodic least_period repetition left_ends right_ends run reach run_of run_size run_period_cell run_start run_end run_period run_begins run_at runs covers whole_periods counts holds counted_by lies_in line_by lines_by lines_by_row lines_by_runs agree
known = record {
  partial = refl;
  counted = (refl, refl, refl, refl);
  least = (refl, refl);
  overlap = (refl, refl, refl, refl);
  differ = (refl, refl, refl, refl);
  edges = (refl, refl, refl);
}
