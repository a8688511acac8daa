-- The texts of several pieces as the code puts them, one piece after another: room for the whole is room for the next piece, and with the
-- last piece the whole is put. Assumes nothing.
use Prim.Native.Nat.{ℕ, ◌≤◌}
use mathlib.Core.List.{List, ◌++◌}
use lib.ListN.{length}
use Rattle.words.specs.Range.{count}
use Rattle.words.specs.Groups.{size}
use Rattle.text_puts.specs.Ascii.{ascii}
use Rattle.text_puts.specs.Numbers.{number_text}
use Rattle.text_puts.specs.Puts.{Room, Puts}
use Rattle.text_puts.proofs.Pieces.{front-room, back-room, both_puts, first-room, second_room, third_room, three_puts}
use Rattle.text_groups.specs.Groups.{colon, members_text, group_text, alone, singles_text, alone_text}
use Rattle.text_groups.proofs.Shapes.{group_some, alone-some}

-- a group of two or more
module _ (t : List ℕ) (s : ℕ) (big : 2 ≤ size t s) {buf : List ℕ} {at : ℕ} (h : Room buf at (group_text t s)) where
  group_whole : Room buf at (ascii "  group " ++ number_text s colon ++ members_text t s ++ ascii "\n")
  group_whole = rw (group_some t s big) at h

  group_front : Room buf at (ascii "  group " ++ number_text s colon ++ members_text t s)
  group_front = front-room _ _ group_whole

  pub group_room : Room buf at (ascii "  group ")
  group_room = first-room _ _ _ group_front

  module _ {m₁ : List ℕ} {a₁ : ℕ} (p : Puts buf at (ascii "  group ") m₁ a₁) where
    pub group_name_room : Room m₁ a₁ (number_text s colon)
    group_name_room = second_room _ _ _ group_front p

    module _ {m₂ : List ℕ} {a₂ : ℕ} (q : Puts m₁ a₁ (number_text s colon) m₂ a₂) where
      pub members_room : Room m₂ a₂ (members_text t s)
      members_room = third_room _ _ _ group_front p q

      module _ {m₃ : List ℕ} {a₃ : ℕ} (r : Puts m₂ a₂ (members_text t s) m₃ a₃) where
        pub group_end_room : Room m₃ a₃ (ascii "\n")
        group_end_room = back-room _ _ group_whole (three_puts _ _ _ group_front p q r)

        pub group_puts : {new : List ℕ} {end : ℕ} → Puts m₃ a₃ (ascii "\n") new end → Puts buf at (group_text t s) new end
        group_puts e = rw (group_some t s big) (both_puts _ _ group_whole (three_puts _ _ _ group_front p q r) e)

-- the positions alone in their group
module _ (t : List ℕ) (any : 1 ≤ count (alone t) (length t) 1) {buf : List ℕ} {at : ℕ} (h : Room buf at (alone_text t)) where
  alone_whole : Room buf at (ascii "  alone:" ++ singles_text t ++ ascii "\n")
  alone_whole = rw (alone-some t any) at h

  pub alone-room : Room buf at (ascii "  alone:")
  alone-room = first-room _ _ _ alone_whole

  module _ {m₁ : List ℕ} {a₁ : ℕ} (p : Puts buf at (ascii "  alone:") m₁ a₁) where
    pub singles_room : Room m₁ a₁ (singles_text t)
    singles_room = second_room _ _ _ alone_whole p

    module _ {m₂ : List ℕ} {a₂ : ℕ} (q : Puts m₁ a₁ (singles_text t) m₂ a₂) where
      pub alone-end-room : Room m₂ a₂ (ascii "\n")
      alone-end-room = third_room _ _ _ alone_whole p q

      pub alone_puts : {new : List ℕ} {end : ℕ} → Puts m₂ a₂ (ascii "\n") new end → Puts buf at (alone_text t) new end
      alone_puts e = rw (alone-some t any) (three_puts _ _ _ alone_whole p q e)
