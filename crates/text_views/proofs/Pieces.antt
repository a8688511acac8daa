-- The texts of several pieces as the code puts them, one piece after another: room for the whole is room for the next piece, and with the
-- last piece the whole is put. Assumes nothing.
use Prim.Native.Nat.{ℕ}
use mathlib.Core.Path.{◌≡◌}
use mathlib.Core.List.{List, ◌++◌, append_assoc}
use lib.ListN.{length}
use Rattle.words.specs.Rows.{row}
use Rattle.words.specs.Lists.{line_size}
use Rattle.words_runs.specs.Runs.{run_size}
use Rattle.text_puts.specs.Ascii.{ascii}
use Rattle.text_puts.specs.Numbers.{space, newline, number_text, numbers_text}
use Rattle.text_puts.specs.Puts.{Room, Puts}
use Rattle.text_bytes.specs.Bytes.{bytes_text}
use Rattle.text_groups.specs.Groups.{groups_text, alone_text}
use Rattle.text_moves.specs.Moves.{moves_text}
use Rattle.text_views.specs.Views.{row_text, rows_text, width_text, head_text}
use Rattle.text_puts.proofs.Pieces.{front-room, back-room, both_puts, first-room, second_room, third_room, three_puts}

-- the first line of a read
module _ (x : List ℕ) {buf : List ℕ} {at : ℕ} (h : Room buf at (head_text x)) where
  head_whole : Room buf at (ascii "read " ++ number_text (length x) space ++ bytes_text x ++ ascii "\n")
  unfolding head_text
  head_whole = h

  head_front : Room buf at (ascii "read " ++ number_text (length x) space ++ bytes_text x)
  head_front = front-room _ _ head_whole

  pub read_room : Room buf at (ascii "read ")
  read_room = first-room _ _ _ head_front

  module _ {m₁ : List ℕ} {a₁ : ℕ} (p : Puts buf at (ascii "read ") m₁ a₁) where
    pub length-room : Room m₁ a₁ (number_text (length x) space)
    length-room = second_room _ _ _ head_front p

    module _ {m₂ : List ℕ} {a₂ : ℕ} (q : Puts m₁ a₁ (number_text (length x) space) m₂ a₂) where
      pub bytes_room : Room m₂ a₂ (bytes_text x)
      bytes_room = third_room _ _ _ head_front p q

      module _ {m₃ : List ℕ} {a₃ : ℕ} (r : Puts m₂ a₂ (bytes_text x) m₃ a₃) where
        pub head_end_room : Room m₃ a₃ (ascii "\n")
        head_end_room = back-room _ _ head_whole (three_puts _ _ _ head_front p q r)

        pub head_puts : {new : List ℕ} {end : ℕ} → Puts m₃ a₃ (ascii "\n") new end → Puts buf at (head_text x) new end
        unfolding head_text
        head_puts s = both_puts _ _ head_whole (three_puts _ _ _ head_front p q r) s

-- row k, behind a word
module _ (word : List ℕ) (c : ℕ) (l : List ℕ) (k : ℕ) {r : List ℕ} (e : r ≡ row c l k) {buf : List ℕ} {at : ℕ} (h : Room buf at (row_text word c l k)) where
  row_is : row_text word c l k ≡ word ++ numbers_text r
  unfolding row_text
  row_is = rw e

  row_whole : Room buf at (word ++ numbers_text r)
  row_whole = rw row_is at h

  pub word_room : Room buf at word
  word_room = front-room _ _ row_whole

  module _ {mid : List ℕ} {here : ℕ} (p : Puts buf at word mid here) where
    pub numbers_room : Room mid here (numbers_text r)
    numbers_room = back-room _ _ row_whole p

    pub row_puts : {new : List ℕ} {end : ℕ} → Puts mid here (numbers_text r) new end → Puts buf at (row_text word c l k) new end
    row_puts q = rw row_is (both_puts _ _ row_whole p q)

-- one width
module _ (w : ℕ) (t moves lines runs : List ℕ) {buf : List ℕ} {at : ℕ} (h : Room buf at (width_text w t moves lines runs)) where
  abbrev repeats : List ℕ
  repeats = rows_text (ascii "  repeat ") line_size lines

  abbrev ran : List ℕ
  ran = rows_text (ascii "  run ") run_size runs

  abbrev named : List ℕ
  named = ascii "width " ++ number_text w newline

  abbrev pub front : List ℕ
  front = named ++ (groups_text t ++ alone_text t) ++ moves_text moves

  width_is : width_text w t moves lines runs ≡ front ++ repeats ++ ran
  unfolding width_text
  width_is = rw (append_assoc named (groups_text t) (alone_text t))

  width_whole : Room buf at (front ++ repeats ++ ran)
  width_whole = rw width_is at h

  width_front : Room buf at front
  width_front = first-room _ _ _ width_whole

  named-front : Room buf at named
  named-front = first-room _ _ _ width_front

  pub width_room_lem : Room buf at (ascii "width ")
  width_room_lem = front-room _ _ named-front

  module _ {m₁ : List ℕ} {a₁ : ℕ} (p₁ : Puts buf at (ascii "width ") m₁ a₁) where
    pub number_room : Room m₁ a₁ (number_text w newline)
    number_room = back-room _ _ named-front p₁

    module _ {m₂ : List ℕ} {a₂ : ℕ} (p₂ : Puts m₁ a₁ (number_text w newline) m₂ a₂) where
      pub table-room : Room m₂ a₂ (groups_text t ++ alone_text t)
      table-room = second_room _ _ _ width_front (both_puts _ _ named-front p₁ p₂)

      module _ {m₃ : List ℕ} {a₃ : ℕ} (p₃ : Puts m₂ a₂ (groups_text t ++ alone_text t) m₃ a₃) where
        pub moves-room : Room m₃ a₃ (moves_text moves)
        moves-room = third_room _ _ _ width_front (both_puts _ _ named-front p₁ p₂) p₃

        pub front_puts : {m₄ : List ℕ} {a₄ : ℕ} → Puts m₃ a₃ (moves_text moves) m₄ a₄ → Puts buf at front m₄ a₄
        front_puts p₄ = three_puts _ _ _ width_front (both_puts _ _ named-front p₁ p₂) p₃ p₄

  -- behind the moves
  module _ {m₄ : List ℕ} {a₄ : ℕ} (p : Puts buf at front m₄ a₄) where
    pub lines-room : Room m₄ a₄ repeats
    lines-room = second_room _ _ _ width_whole p

    module _ {m₅ : List ℕ} {a₅ : ℕ} (q : Puts m₄ a₄ repeats m₅ a₅) where
      pub runs-room : Room m₅ a₅ ran
      runs-room = third_room _ _ _ width_whole p q

      pub width_puts : {new : List ℕ} {end : ℕ} → Puts m₅ a₅ ran new end → Puts buf at (width_text w t moves lines runs) new end
      width_puts r = rw width_is (three_puts _ _ _ width_whole p q r)
