-- The bench view: the text of one width, from the table t of its groups, its moves, its lines and its runs; the first line of a read's view and the last two.
use Rattle.std.specs.Prelude.{ℕ, ◌+◌, ◌*◌, Bool, cond, List, ◌++◌, length, eqb}
use Rattle.words.specs.Range.{gather}
use Rattle.words.specs.Rows.{widest, rows, row}
use Rattle.words.specs.Lists.{line_size}
use Rattle.words_runs.specs.Runs.{run_size}
use Rattle.text_puts.specs.Ascii.{ascii}
use Rattle.text_puts.specs.Numbers.{space, newline, number_text, numbers_text}
use Rattle.text_bytes.specs.Bytes.{bytes_text}
use Rattle.text_groups.specs.Groups.{groups_text, alone_text}
use Rattle.text_moves.specs.Moves.{moves_text}

-- row k of a list of rows of c numbers: what it is, in a word, and number by number
unfoldable pub row_text : List ℕ → ℕ → List ℕ → ℕ → List ℕ
row_text word c l k = word ++ numbers_text (row c l k)

-- the rows, each on a line of its own
unfoldable pub rows_text : List ℕ → ℕ → List ℕ → List ℕ
rows_text word c l = gather (row_text word c l) (rows c l) 0

-- one width: the groups, who is alone, the moves, the lines, the runs
unfoldable pub width_text : ℕ → List ℕ → List ℕ → List ℕ → List ℕ → List ℕ
width_text w t moves lines runs =
    ascii "width " ++ number_text w newline ++ groups_text t ++ alone_text t ++ moves_text moves
    ++ rows_text (ascii "  repeat ") line_size lines ++ rows_text (ascii "  run ") run_size runs

-- room for the text of one width: 27 bytes for each position and each move, and for each line and each run a word of 9 bytes, and 6 bytes for each number
-- that a row may take
unfoldable pub width_room : ℕ → ℕ → ℕ → ℕ → ℕ
width_room n moves lines runs = 27 * (n + moves) + (9 + 6 * widest) * (lines + runs) + 64

-- the first line: the read's length and its bytes
unfoldable pub head_text : List ℕ → List ℕ
head_text x = ascii "read " ++ number_text (length x) space ++ bytes_text x ++ ascii "\n"

-- the last line but one, by the first width at which list and groups differ, 0 for none
unfoldable pub verdict_text : ℕ → List ℕ
verdict_text w =
    cond (eqb w 0) (ascii "list and groups agree at every width\n") (ascii "list and groups differ at width " ++ number_text w newline)

-- the last line: do repeats and runs agree?
unfoldable pub accord_text : Bool → List ℕ
accord_text agree = cond agree (ascii "repeats and runs agree\n") (ascii "repeats and runs differ\n")
