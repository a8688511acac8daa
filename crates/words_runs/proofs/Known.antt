-- Known runs, and the call at its edges, by computation from the definitions. Assumes nothing.
use Prim.Native.Nat.{ℕ}
use mathlib.Core.Path.{◌≡◌, refl}
use mathlib.Core.List.{List, [], ◌∷◌}
use lib.ListN.{replicate}
use Rattle.words.specs.Range.{first, every, gather}
use Rattle.words.specs.Rows.{rows}
use Rattle.words.specs.ByPeriod.{row_if, rows_at, by_period}
use Rattle.words.specs.Reads.{at, letter_of, letter}
use Rattle.words.specs.Answers.{success, refusal}
use Rattle.words.specs.Calls.{refuse, too_long, afterwards, list_afterwards}
use Rattle.words_runs.specs.Runs.{again, periodic, least_period, repetition, left_ends, right_ends, run, reach, run_of, run_size, run_begins, run_at, runs_at, runs, run_count}
use Rattle.words_runs.specs.Calls.{runs_answer, runs_leaves}

-- document 02's read
abbrev ACACACA : List ℕ
ACACACA = 65 ∷ 67 ∷ 65 ∷ 67 ∷ 65 ∷ 67 ∷ 65 ∷ []

-- two runs of one period that overlap
abbrev AACAACCACC : List ℕ
AACAACCACC = 65 ∷ 65 ∷ 67 ∷ 65 ∷ 65 ∷ 67 ∷ 67 ∷ 65 ∷ 67 ∷ 67 ∷ []

-- document 004's word, 1011010110110
abbrev source : List ℕ
source = 49 ∷ 48 ∷ 49 ∷ 49 ∷ 48 ∷ 49 ∷ 48 ∷ 49 ∷ 49 ∷ 48 ∷ 49 ∷ 49 ∷ 48 ∷ []

-- a slice of n numbers as the caller lends it
abbrev lent : ℕ → List ℕ
lent n = replicate n 7

pub record Known : Type 0 where
  pub partial : runs ACACACA ≡ 1 ∷ 7 ∷ 2 ∷ []
  pub seven : runs source ≡ 3 ∷ 4 ∷ 1 ∷ 8 ∷ 9 ∷ 1 ∷ 11 ∷ 12 ∷ 1 ∷ 4 ∷ 8 ∷ 2 ∷ 1 ∷ 6 ∷ 3 ∷ 6 ∷ 13 ∷ 3 ∷ 1 ∷ 11 ∷ 5 ∷ []
  pub overlap : runs AACAACCACC ≡ 1 ∷ 2 ∷ 1 ∷ 4 ∷ 5 ∷ 1 ∷ 6 ∷ 7 ∷ 1 ∷ 9 ∷ 10 ∷ 1 ∷ 1 ∷ 6 ∷ 3 ∷ 5 ∷ 10 ∷ 3 ∷ []
  pub least : runs (65 ∷ 65 ∷ 65 ∷ 65 ∷ []) ≡ 1 ∷ 4 ∷ 1 ∷ []
  pub unread : runs (65 ∷ 67 ∷ 78 ∷ 65 ∷ 67 ∷ 78 ∷ 65 ∷ []) ≡ []
  pub edges : (runs_answer ACACACA (lent 3) ≡ success 1) × (runs_answer ACACACA (lent 2) ≡ refusal 3 1) × (runs_answer [] [] ≡ success 0)
  pub slices : (runs_leaves ACACACA (lent 4) ≡ 1 ∷ 7 ∷ 2 ∷ 7 ∷ []) × (runs_leaves ACACACA (lent 2) ≡ 0 ∷ 0 ∷ []) × (runs_leaves [] (lent 1) ≡ lent 1)

pub known : Known
unfolding first every gather row_if rows_at by_period at letter_of letter rows refuse too_long afterwards list_afterwards success refusal again periodic least_period repetition left_ends right_ends run reach run_of run_size run_begins run_at runs_at runs run_count runs_answer runs_leaves
known = record {
  partial = refl;
  seven = refl;
  overlap = refl;
  least = refl;
  unread = refl;
  edges = (refl, refl, refl);
  slices = (refl, refl, refl);
}
