-- Document 01, "Reads with known results": R1 to R12, all twelve in one theorem, by computation from the definitions; R12 as document 02, item 2, has it,
-- with a small n beside it. Assumes nothing.
use Prim.Native.Nat.{ℕ}
use mathlib.Core.Bool.{true, false}
use mathlib.Core.List.{List, [], ◌∷◌}
use mathlib.Core.Path.{◌≡◌, refl}
use Rattle.words.specs.Range.{first, every, sum, count, gather, cells, column, leader}
use Rattle.words.specs.Rows.{rows, cell}
use Rattle.words.specs.ByPeriod.{row_if, rows_at, by_period}
use Rattle.words.specs.Reads.{at, letter_of, letter, fits, stretch, same, alike}
use Rattle.words.specs.Repeats.{stands, writes, primitive, repeats, leads, copies}
use Rattle.words.specs.Lists.{line_of, line_size, line_at, listed, lines_at, lines, in_mode}
use Rattle.words.specs.Groups.{share, name, table, size, beats, big, all_small, parts_small, smalls}
use Rattle.words.specs.Moves.{top_of, top, move_of, move_size, width_cell, width_of, name_of, place_of, move_at, moves_of, moves_in, moves, log, log2, M}

-- the letters of the reads below
abbrev pub A : ℕ
A = 65

abbrev pub C : ℕ
C = 67

abbrev G : ℕ
G = 71

abbrev T : ℕ
T = 84

abbrev N : ℕ
N = 78

-- a small n, which is a letter like any other
abbrev n : ℕ
n = 110

abbrev pub ACAACACA : List ℕ
ACAACACA = A ∷ C ∷ A ∷ A ∷ C ∷ A ∷ C ∷ A ∷ []

abbrev ACACACAC : List ℕ
ACACACAC = A ∷ C ∷ A ∷ C ∷ A ∷ C ∷ A ∷ C ∷ []

abbrev ACACNACAC : List ℕ
ACACNACAC = A ∷ C ∷ A ∷ C ∷ N ∷ A ∷ C ∷ A ∷ C ∷ []

-- what holds of four letters that are all the same
pub record Four (x : List ℕ) : Type 0 where
  pub full : lines x (in_mode x 0) ≡ 1 ∷ 1 ∷ 4 ∷ 2 ∷ 1 ∷ 3 ∷ 3 ∷ 1 ∷ 2 ∷ []
  pub leading : lines x (in_mode x 1) ≡ 1 ∷ 1 ∷ 4 ∷ []
  pub moved : log x ≡ 1 ∷ 1 ∷ 1 ∷ 1 ∷ 1 ∷ 2 ∷ 1 ∷ 1 ∷ 3 ∷ []

pub record Known : Type 0 where
  pub R1 : (lines [] (in_mode [] 0) ≡ []) × (log [] ≡ [])
  pub R2 : (lines (A ∷ []) (in_mode (A ∷ []) 0) ≡ []) × (log (A ∷ []) ≡ [])
  pub R3 : (lines (A ∷ A ∷ []) (in_mode (A ∷ A ∷ []) 0) ≡ 1 ∷ 1 ∷ 2 ∷ []) × (log (A ∷ A ∷ []) ≡ [])
  pub R4 : Four (A ∷ A ∷ A ∷ A ∷ [])
  pub R5 : (lines ACAACACA (in_mode ACAACACA 0) ≡ 3 ∷ 1 ∷ 2 ∷ 4 ∷ 2 ∷ 2 ∷ 5 ∷ 2 ∷ 2 ∷ 1 ∷ 3 ∷ 2 ∷ []) × (lines ACAACACA (in_mode ACAACACA 1) ≡ lines ACAACACA (in_mode ACAACACA 0))
  pub R6 :
      (log ACAACACA
      ≡ 1 ∷ 1 ∷ 2 ∷ 1 ∷ 1 ∷ 3 ∷ 1 ∷ 1 ∷ 5 ∷ 1 ∷ 1 ∷ 7 ∷ 1 ∷ 2 ∷ 1 ∷ 1 ∷ 2 ∷ 4 ∷ 1 ∷ 2 ∷ 6
      ∷ 2 ∷ 3 ∷ 2 ∷ 2 ∷ 8 ∷ 7 ∷ 3 ∷ 5 ∷ 4 ∷ 3 ∷ 7 ∷ 6 ∷ [])
      × (rows 3 (log ACAACACA) ≡ 11)
      × (M 8 ≡ 28)
  pub R7 : table ACAACACA 3 ≡ 1 ∷ 2 ∷ 3 ∷ 1 ∷ 5 ∷ 1 ∷ 7 ∷ 8 ∷ []
  pub R8 :
      (lines (A ∷ C ∷ A ∷ C ∷ A ∷ C ∷ A ∷ []) (in_mode (A ∷ C ∷ A ∷ C ∷ A ∷ C ∷ A ∷ []) 0) ≡ 1 ∷ 2 ∷ 3 ∷ 2 ∷ 2 ∷ 3 ∷ 3 ∷ 2 ∷ 2 ∷ 4 ∷ 2 ∷ 2 ∷ [])
      × (lines (A ∷ C ∷ A ∷ C ∷ A ∷ C ∷ A ∷ []) (in_mode (A ∷ C ∷ A ∷ C ∷ A ∷ C ∷ A ∷ []) 1) ≡ 1 ∷ 2 ∷ 3 ∷ 2 ∷ 2 ∷ 3 ∷ [])
  pub R9 : lines (A ∷ C ∷ G ∷ T ∷ A ∷ C ∷ G ∷ T ∷ []) (in_mode (A ∷ C ∷ G ∷ T ∷ A ∷ C ∷ G ∷ T ∷ []) 0) ≡ 1 ∷ 4 ∷ 2 ∷ []
  pub R10 : (lines (A ∷ C ∷ G ∷ T ∷ []) (in_mode (A ∷ C ∷ G ∷ T ∷ []) 0) ≡ []) × (log (A ∷ C ∷ G ∷ T ∷ []) ≡ 1 ∷ 2 ∷ 1 ∷ 1 ∷ 3 ∷ 2 ∷ 1 ∷ 4 ∷ 3 ∷ [])
  pub R11 : (repeats ACACACAC 1 2 4 ≡ true) × (repeats ACACACAC 1 4 2 ≡ false) × (repeats ACACACAC 1 2 3 ≡ false)
  pub R12 : (lines (N ∷ N ∷ N ∷ N ∷ []) (in_mode (N ∷ N ∷ N ∷ N ∷ []) 0) ≡ []) × (log (N ∷ N ∷ N ∷ N ∷ []) ≡ 1 ∷ 2 ∷ 1 ∷ 1 ∷ 3 ∷ 2 ∷ 1 ∷ 4 ∷ 3 ∷ [])
  pub small_n : Four (n ∷ n ∷ n ∷ n ∷ [])
  pub between : lines ACACNACAC (in_mode ACACNACAC 0) ≡ 1 ∷ 2 ∷ 2 ∷ 6 ∷ 2 ∷ 2 ∷ []

pub known : Known
unfolding first every sum count gather cells column leader rows cell at letter_of letter fits stretch same alike stands writes primitive repeats leads copies row_if rows_at by_period line_of line_size line_at listed lines_at lines in_mode share name table size beats big all_small parts_small smalls top_of top move_of move_size width_cell width_of name_of place_of move_at moves_of moves_in moves log log2 M
known =
    record {
      R1 = (refl, refl);
      R2 = (refl, refl);
      R3 = (refl, refl);
      R4 = record { full = refl; leading = refl; moved = refl };
      R5 = (refl, refl);
      R6 = (refl, refl, refl);
      R7 = refl;
      R8 = (refl, refl);
      R9 = refl;
      R10 = (refl, refl);
      R11 = (refl, refl, refl);
      R12 = (refl, refl);
      small_n = record { full = refl; leading = refl; moved = refl };
      between = refl;
    }
