-- The text of an entry as the code puts it, one piece after another: room for the whole is room for the next piece, and with the last piece the whole is put.
-- Assumes nothing.
use Prim.Native.Nat.{ℕ}
use mathlib.Core.Path.{◌≡◌, ◌∙◌}
use mathlib.Core.Bool.{true}
use mathlib.Core.List.{List, ◌++◌}
use Rattle.words.specs.Moves.{name_of, place_of}
use Rattle.text_puts.specs.Ascii.{ascii}
use Rattle.text_puts.specs.Numbers.{number_text}
use Rattle.text_puts.specs.Puts.{Room, Puts}
use Rattle.text_groups.specs.Groups.{colon, spaced}
use Rattle.text_moves.specs.Moves.{begins, under_text, end_text, move_text}
use Rattle.text_puts.proofs.Pieces.{front-room, back-room, both_puts, first-room, second_room, third_room, three_puts}
use Rattle.text_moves.proofs.Shapes.{under_first}

-- the name that entry k moved under
module _ (l : List ℕ) (k : ℕ) {s : ℕ} (e : s ≡ name_of l k) (b : begins l k ≡ true) {buf : List ℕ} {at : ℕ} (h : Room buf at (under_text l k)) where
  under_is : under_text l k ≡ ascii "  moved under " ++ number_text s colon
  under_is = under_first l k b ∙ rw e

  under_whole : Room buf at (ascii "  moved under " ++ number_text s colon)
  under_whole = rw under_is at h

  pub moved-room : Room buf at (ascii "  moved under ")
  moved-room = front-room _ _ under_whole

  module _ {mid : List ℕ} {here : ℕ} (p : Puts buf at (ascii "  moved under ") mid here) where
    pub under-name-room : Room mid here (number_text s colon)
    under-name-room = back-room _ _ under_whole p

    pub under_puts : {new : List ℕ} {end : ℕ} → Puts mid here (number_text s colon) new end → Puts buf at (under_text l k) new end
    under_puts q = rw under_is (both_puts _ _ under_whole p q)

-- entry k
module _ (l : List ℕ) (k : ℕ) {j : ℕ} (e : j ≡ place_of l k) {buf : List ℕ} {at : ℕ} (h : Room buf at (move_text l k)) where
  move_is : move_text l k ≡ under_text l k ++ spaced j ++ end_text l k
  unfolding move_text
  move_is = rw e

  move_whole : Room buf at (under_text l k ++ spaced j ++ end_text l k)
  move_whole = rw move_is at h

  pub under-room : Room buf at (under_text l k)
  under-room = first-room _ _ _ move_whole

  module _ {m₁ : List ℕ} {a₁ : ℕ} (p : Puts buf at (under_text l k) m₁ a₁) where
    pub place_room : Room m₁ a₁ (spaced j)
    place_room = second_room _ _ _ move_whole p

    module _ {m₂ : List ℕ} {a₂ : ℕ} (q : Puts m₁ a₁ (spaced j) m₂ a₂) where
      pub move_end_room : Room m₂ a₂ (end_text l k)
      move_end_room = third_room _ _ _ move_whole p q

      pub move_puts : {new : List ℕ} {end : ℕ} → Puts m₂ a₂ (end_text l k) new end → Puts buf at (move_text l k) new end
      move_puts r = rw move_is (three_puts _ _ _ move_whole p q r)
