-- What the list call answers for a line of standard input.
use Rattle.std.specs.Prelude.{ℕ, ◌*◌, ◌≤◌, ◌≡◌, List, length, replicate}
use Rattle.words.specs.Reads.{most}
use Rattle.words.specs.Rows.{rows}
use Rattle.words.specs.Lists.{line_size, lines, in_mode}
use Rattle.words.specs.Answers.{Answer}
use Rattle.words.specs.Calls.{refuse, too_long, list_afterwards, list_answer}
use Rattle.text_lines.specs.Lines.{counted, Keeps}

-- a slice with room for r lines
unfoldable pub room_for : ℕ → List ℕ
room_for r = replicate (line_size * r) 0

-- the answer for a line x in mode 0 with room for r lines, its length counted as far as it can be
unfoldable pub heard : ℕ → List ℕ → Answer
heard r x = refuse (too_long x) 1 (counted (length x)) (list_answer x 0 (room_for r))

-- a line of len bytes was heard: whatever line it is, this is its answer, and `made` what is left in the list's slice; a success is of a line that is kept whole
pub record Hears (line : List ℕ) (len : ℕ) (list : List ℕ) (a : Answer) (made : List ℕ) : Type 0 where
  pub few : a.number ≡ 0 → len ≤ most
  pub says : (x : List ℕ) → Keeps x len line → a ≡ heard (rows line_size list) x
  pub leaves : (x : List ℕ) → Keeps x len line → made ≡ list_afterwards a (lines x (in_mode x 0)) list
