-- The text of the moves of one width, a line for each name that they moved under.
use Rattle.std.specs.Prelude.{ℕ, ◌+◌, ◌-◌, Bool, ◌||◌, not, cond, List, [], ◌++◌, eqb}
use Rattle.words.specs.Range.{gather}
use Rattle.words.specs.Rows.{rows}
use Rattle.words.specs.Moves.{move_size, name_of, place_of}
use Rattle.text_puts.specs.Ascii.{ascii}
use Rattle.text_puts.specs.Numbers.{number_text}
use Rattle.text_groups.specs.Groups.{colon, spaced}

-- entry k of the moves begins a line: it is the first, or moved under another name than the one before
unfoldable pub begins : List ℕ → ℕ → Bool
begins l k = eqb k 0 || not (eqb (name_of l (k - 1)) (name_of l k))

-- entry k ends its line
unfoldable pub ends : List ℕ → ℕ → Bool
ends l k = eqb (k + 1) (rows move_size l) || not (eqb (name_of l k) (name_of l (k + 1)))

-- the name that entry k moved under, at the beginning of a line
unfoldable pub under_text : List ℕ → ℕ → List ℕ
under_text l k = cond (begins l k) (ascii "  moved under " ++ number_text (name_of l k) colon) []

-- the newline at the end of a line
unfoldable pub end_text : List ℕ → ℕ → List ℕ
end_text l k = cond (ends l k) (ascii "\n") []

-- entry k: the name that it moved under at the beginning of a line, the position moved, a newline at the end of a line
unfoldable pub move_text : List ℕ → ℕ → List ℕ
move_text l k = under_text l k ++ spaced (place_of l k) ++ end_text l k

-- the moves of a width, a line for each name
unfoldable pub moves_text : List ℕ → List ℕ
moves_text l = gather (move_text l) (rows move_size l) 0
