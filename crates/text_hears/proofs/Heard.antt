-- A line answered as the read that it is: a line over the limit is refused by its length alone, and of any other line every byte is kept.
-- Assumes nothing.
use Prim.Native.Nat.{ℕ, ◌*◌, ◌^◌, ◌≤◌, ◌<◌}
use mathlib.Core.Path.{◌≡◌, sym, ◌∙◌}
use mathlib.Core.Logic.{⊎_elim}
use mathlib.Core.List.{List}
use native.Mathlib.Omega.{arith}
use borrow.Author.Tests.{lt-ltb, le-ltb}
use lib.ListN.{length, length-replicate}
use Rattle.words.specs.Reads.{most}
use Rattle.words.specs.Rows.{rows}
use Rattle.words.specs.Lists.{line_size}
use Rattle.words.specs.Answers.{refusal}
use Rattle.words.specs.Calls.{refuse, too_long, list_answer}
use Rattle.words.proofs.Tests.{lt_or_ge}
use Rattle.words.proofs.Rows.{rows_times}
use Rattle.words.proofs.LineLayout.{line-some}
use Rattle.text_lines.specs.Lines.{counted, Keeps}
use Rattle.text_hears.specs.Heard.{room_for, heard}

-- an answer knows a slice by its rows
answer_room : (x : List ℕ) (mode : ℕ) (list made : List ℕ) → rows line_size list ≡ rows line_size made → list_answer x mode list ≡ list_answer x mode made
unfolding list_answer
answer_room x mode list made e = rw e

room-rows : (r : ℕ) → rows line_size (room_for r) ≡ r
unfolding room_for
room-rows r = rows_times line_size (room_for r) r line-some (length-replicate (line_size * r) 0)

module _ (r : ℕ) (x : List ℕ) where
  heard-inside : length x ≤ most → heard r x ≡ list_answer x 0 (room_for r)
  unfolding heard refuse too_long
  heard-inside h = rw (le-ltb most (length x) h)

  -- a line that can be counted is answered as a read
  pub heard_read : length x < 2 ^ 64 → heard r x ≡ list_answer x 0 (room_for r)
  unfolding heard refuse too_long list_answer counted
  heard_read b =
      let c : counted (length x) ≡ length x = omega arith in
      ⊎_elim (λ l. rw (lt-ltb most (length x) l, c)) (λ l. rw (le-ltb most (length x) l)) (lt_or_ge most (length x))

  module _ {line : List ℕ} {len : ℕ} (k : Keeps x len line) where
    pub heard-long : most < len → heard r x ≡ refusal 1 len
    unfolding heard refuse too_long counted
    heard-long h = rw (lt-ltb most (length x) (omega (arith, k.size)), k.size)

    pub heard_short : len ≤ most → (list : List ℕ) → rows line_size list ≡ r → heard r x ≡ list_answer x 0 list
    unfolding counted
    heard_short h list e =
        let s : length x ≤ most = omega (arith, k.size) in
        heard-inside s ∙ answer_room x 0 (room_for r) list (room-rows r ∙ sym e)
