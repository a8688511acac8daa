-- The index of R5's list, and the three calls at their edges, by computation from the definitions. Assumes nothing.
use Prim.Native.Nat.{ℕ}
use mathlib.Core.List.{List, [], ◌∷◌}
use mathlib.Core.Path.{◌≡◌, refl}
use lib.ListN.{replicate}
use Rattle.words.specs.Range.{first, every, sum, count, largest, gather, cells}
use Rattle.words.specs.Rows.{rows, cell}
use Rattle.words.specs.ByPeriod.{row_if, rows_at, by_period}
use Rattle.words.specs.Reads.{at, letter_of, letter, stretch, same, alike, fits}
use Rattle.words.specs.Repeats.{stands, writes, primitive, leads, copies}
use Rattle.words.specs.Lists.{line_of, line_size, period_cell, start_of, period_of, copies_of, line_at, listed, lines_at, lines, line_count, in_mode}
use Rattle.words.specs.Logs.{within}
use Rattle.words.specs.Answers.{success, both, refusal}
use Rattle.words.specs.Calls.{refuse, too_long, afterwards, list_afterwards}
use Rattle.words.proofs.Known.{ACAACACA}
use Rattle.words_index.specs.Index.{ahead, placed, first_loose, in_order, has_period, first_line, occurs, many_lines, copies_if, most_copies, entry_of, entry_size, entry_at, entry_if, periods_end, index, entry_count, first_entry}
use Rattle.words_index.specs.Calls.{index_answer, index_leaves, list_index_answer, list_index_leaves, list_index_beside, lookup_gives}
use Rattle.std.specs.Prelude.{Some, None}

-- R5's list, and its index
abbrev R5 : List ℕ
R5 = 3 ∷ 1 ∷ 2 ∷ 4 ∷ 2 ∷ 2 ∷ 5 ∷ 2 ∷ 2 ∷ 1 ∷ 3 ∷ 2 ∷ []

abbrev index5 : List ℕ
index5 = 1 ∷ 0 ∷ 1 ∷ 2 ∷ 2 ∷ 1 ∷ 2 ∷ 2 ∷ 3 ∷ 3 ∷ 1 ∷ 2 ∷ []

-- a slice of n numbers as the caller lends it
abbrev lent : ℕ → List ℕ
lent n = replicate n 7

pub record Known : Type 0 where
  pub made : index R5 ≡ index5
  pub alone : (index_answer R5 (lent 12) ≡ success 3) × (index_answer R5 (lent 11) ≡ refusal 7 3) × (index_leaves R5 (lent 11) ≡ lent 11) × (index_answer [] [] ≡ success 0)
  pub cut : (index_answer (3 ∷ 1 ∷ []) [] ≡ refusal 6 0) × (index_answer (3 ∷ 1 ∷ 2 ∷ 4 ∷ []) (lent 4) ≡ refusal 6 1)
  pub loose : (index_answer (3 ∷ 1 ∷ 2 ∷ 3 ∷ 1 ∷ 2 ∷ []) [] ≡ refusal 6 1) × (index_answer (1 ∷ 2 ∷ 2 ∷ 5 ∷ 1 ∷ 2 ∷ []) [] ≡ refusal 6 1) × (index_answer (5 ∷ 2 ∷ 2 ∷ 4 ∷ 2 ∷ 2 ∷ []) [] ≡ refusal 6 1)
  pub passes : index (1 ∷ 0 ∷ 0 ∷ 9 ∷ 0 ∷ 65535 ∷ []) ≡ 0 ∷ 0 ∷ 2 ∷ 65535 ∷ []
  pub together : (list_index_answer ACAACACA 0 (lent 12) (lent 12) ≡ both 4 3) × (list_index_answer ACAACACA 0 (lent 11) (lent 11) ≡ refusal 3 4) × (list_index_answer ACAACACA 0 (lent 12) (lent 11) ≡ refusal 7 3) × (list_index_answer ACAACACA 2 [] [] ≡ refusal 2 2)
  pub slices : (list_index_beside ACAACACA 0 (lent 12) (lent 11) ≡ lent 11) × (list_index_leaves ACAACACA 0 (lent 12) (lent 11) ≡ lent 12) × (list_index_leaves ACAACACA 0 (lent 11) [] ≡ replicate 11 0) × (list_index_beside ACAACACA 0 (lent 11) (lent 1) ≡ lent 1)
  pub found : (lookup_gives index5 2 ≡ Some (record { place = 1; first = 1; lines = 2; largest = 2 })) × (lookup_gives index5 4 ≡ None) × (lookup_gives (2 ∷ 5 ∷ 6 ∷ 7 ∷ 2 ∷ 8 ∷ 9 ∷ 9 ∷ 3 ∷ []) 2 ≡ Some (record { place = 0; first = 5; lines = 6; largest = 7 })) × (lookup_gives (3 ∷ 0 ∷ 1 ∷ []) 3 ≡ None)

pub known : Known
unfolding first every sum count largest gather cells at rows cell letter_of letter stretch same alike fits stands writes primitive leads copies row_if rows_at by_period line_of line_size period_cell start_of period_of copies_of line_at listed lines_at lines line_count in_mode within success both refusal refuse too_long afterwards list_afterwards ahead placed first_loose in_order has_period first_line occurs many_lines copies_if most_copies entry_of entry_size entry_at entry_if periods_end index entry_count first_entry index_answer index_leaves list_index_answer list_index_leaves list_index_beside lookup_gives
known =
    record {
      made = refl;
      alone = (refl, refl, refl, refl);
      cut = (refl, refl);
      loose = (refl, refl, refl);
      passes = refl;
      together = (refl, refl, refl, refl);
      slices = (refl, refl, refl, refl);
      found = (refl, refl, refl, refl);
    }
