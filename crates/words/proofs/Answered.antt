-- The public calls on R5's read, by computation from their definitions: each refusal at its edge and in its place in the order, with
-- its value and what it leaves in the slice. Assumes nothing.
use Prim.Native.Nat.{ℕ}
use mathlib.Core.List.{List, [], ◌∷◌}
use mathlib.Core.Path.{◌≡◌, refl}
use lib.ListN.{replicate}
use Rattle.words.specs.Range.{first, every, sum, count, gather, cells, column, leader}
use Rattle.words.specs.Rows.{rows, cell}
use Rattle.words.specs.ByPeriod.{row_if, rows_at, by_period}
use Rattle.words.specs.Reads.{at, letter_of, letter, fits, stretch, same, alike}
use Rattle.words.specs.Repeats.{stands, writes, primitive, repeats, leads, copies}
use Rattle.words.specs.Lists.{line_of, line_size, line_at, listed, lines_at, lines, line_count, in_mode}
use Rattle.words.specs.Groups.{share, name, table, size, beats, big, all_small, parts_small, smalls}
use Rattle.words.specs.Moves.{top_of, top, move_of, move_size, width_cell, width_of, name_of, place_of, move_at, moves_of, moves_in, moves, log, log2, M}
use Rattle.words.specs.Replay.{moving, under, stays, after, replayed, replay}
use Rattle.words.specs.Logs.{within, before, moved, good, first_bad, well_formed}
use Rattle.words.specs.Answers.{success, refusal, entry_says}
use Rattle.words.specs.Calls.{refuse, too_long, afterwards, list_afterwards, list_answer, list_leaves, table_answer, table_leaves, log_answer, log_leaves, replay_answer, replay_leaves, reader_takes}
use Rattle.std.specs.Prelude.{Some, None}
use Rattle.words.proofs.Known.{A, C, ACAACACA}

-- a read of 1,001 bytes
abbrev long : List ℕ
long = replicate 1001 65

-- a slice of n numbers as the caller lends it
abbrev lent : ℕ → List ℕ
lent n = replicate n 7

-- R6's log with its second entry equal to its first
abbrev twice : List ℕ
twice = 1 ∷ 1 ∷ 2 ∷ 1 ∷ 1 ∷ 2 ∷ 1 ∷ 1 ∷ 5 ∷ []

pub record Answered : Type 0 where
  pub list_passes : (list_answer ACAACACA 0 (lent 12) ≡ success 4) × (list_leaves ACAACACA 0 (lent 14) ≡ 3 ∷ 1 ∷ 2 ∷ 4 ∷ 2 ∷ 2 ∷ 5 ∷ 2 ∷ 2 ∷ 1 ∷ 3 ∷ 2 ∷ 7 ∷ 7 ∷ [])
  pub list_short : (list_answer ACAACACA 0 (lent 11) ≡ refusal 3 4) × (list_leaves ACAACACA 0 (lent 11) ≡ replicate 11 0)
  pub list_mode : (list_answer ACAACACA 2 (lent 11) ≡ refusal 2 2) × (list_leaves ACAACACA 2 (lent 11) ≡ lent 11)
  pub list_long : (list_answer long 2 (lent 2) ≡ refusal 1 1001) × (list_leaves long 2 (lent 2) ≡ lent 2)
  pub table_widths : (table_answer ACAACACA 8 (lent 8) ≡ success 8) × (table_answer ACAACACA 0 (lent 8) ≡ refusal 2 0) × (table_answer ACAACACA 9 [] ≡ refusal 2 9)
  pub table-rest : table_leaves ACAACACA 3 (lent 9) ≡ 1 ∷ 2 ∷ 3 ∷ 1 ∷ 5 ∷ 1 ∷ 7 ∷ 8 ∷ 7 ∷ []
  pub table_short : (table_answer ACAACACA 3 (lent 7) ≡ refusal 4 8) × (table_leaves ACAACACA 3 (lent 7) ≡ lent 7)
  pub log-room : (log_answer (A ∷ C ∷ A ∷ C ∷ []) (lent 27) ≡ success 3) × (log_answer (A ∷ C ∷ A ∷ C ∷ []) (lent 26) ≡ refusal 4 27) × (log_leaves (A ∷ C ∷ A ∷ C ∷ []) (lent 26) ≡ lent 26)
  pub replay_widths : (replay_answer ACAACACA (log ACAACACA) 4 (lent 8) ≡ success 8) × (replay_answer ACAACACA (log ACAACACA) 5 (lent 8) ≡ refusal 2 5) × (replay_answer [] [] 1 [] ≡ refusal 2 1)
  pub replay-rest : replay_leaves ACAACACA (log ACAACACA) 3 (lent 9) ≡ 1 ∷ 2 ∷ 3 ∷ 1 ∷ 5 ∷ 1 ∷ 7 ∷ 8 ∷ 7 ∷ []
  pub replay_bad : (replay_answer ACAACACA twice 1 (lent 8) ≡ refusal 5 1) × (replay_answer ACAACACA twice 1 (lent 7) ≡ refusal 4 8)
  pub replay_cut : (replay_answer ACAACACA (1 ∷ 1 ∷ 2 ∷ 1 ∷ []) 1 (lent 8) ≡ refusal 5 1) × (replay_answer ACAACACA (3 ∷ 9 ∷ 2 ∷ []) 1 (lent 8) ≡ refusal 5 0)
  pub replay-moved : replay_answer ACAACACA (1 ∷ 1 ∷ 2 ∷ 1 ∷ 3 ∷ 2 ∷ []) 1 (lent 8) ≡ refusal 5 1
  pub replay_order : (replay_answer ACAACACA (2 ∷ 3 ∷ 2 ∷ 1 ∷ 8 ∷ 7 ∷ []) 1 (lent 8) ≡ refusal 5 1) × (replay_answer ACAACACA (1 ∷ 2 ∷ 4 ∷ 1 ∷ 1 ∷ 5 ∷ []) 1 (lent 8) ≡ refusal 5 1) × (replay_answer ACAACACA (1 ∷ 1 ∷ 5 ∷ 1 ∷ 1 ∷ 2 ∷ []) 1 (lent 8) ≡ refusal 5 1)
  pub reader : (reader_takes twice 1 ≡ record { entry = Some (record { width = 1; name = 1; position = 2 }); at = 2 }) × (reader_takes (1 ∷ 2 ∷ []) 0 ≡ record { entry = None; at = 0 }) × (reader_takes twice 9 ≡ record { entry = None; at = 9 })
  pub reader_says : (entry_says (reader_takes (2 ∷ 8 ∷ 7 ∷ []) 0).entry ≡ record { number = 0; values = 2 ∷ 8 ∷ 7 ∷ [] }) × (entry_says (reader_takes twice 3).entry ≡ record { number = 0; values = [] })

pub answered : Answered
unfolding first every sum count gather cells column leader rows cell at letter_of letter fits stretch same alike stands writes primitive repeats leads copies row_if rows_at by_period line_of line_size line_at listed lines_at lines in_mode line_count share name table size beats big all_small parts_small smalls top_of top move_of move_size width_cell width_of name_of place_of move_at moves_of moves_in moves log log2 M moving under stays after replayed replay within before moved good first_bad well_formed success refusal refuse too_long afterwards list_afterwards list_answer list_leaves table_answer table_leaves log_answer log_leaves replay_answer replay_leaves reader_takes entry_says
answered =
    record {
      list_passes = (refl, refl);
      list_short = (refl, refl);
      list_mode = (refl, refl);
      list_long = (refl, refl);
      table_widths = (refl, refl, refl);
      table-rest = refl;
      table_short = (refl, refl);
      log-room = (refl, refl, refl);
      replay_widths = (refl, refl, refl);
      replay-rest = refl;
      replay_bad = (refl, refl);
      replay_cut = (refl, refl);
      replay-moved = refl;
      replay_order = (refl, refl, refl);
      reader = (refl, refl, refl);
      reader_says = (refl, refl);
    }
