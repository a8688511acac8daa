-- Two or three texts put one after another are their joined text, and so are the texts of a range: room for the whole is room for each piece.
-- Assumes nothing.
use Prim.Native.Nat.{ℕ, suc, ◌+◌, ◌-◌, ◌<◌}
use mathlib.Core.Path.{◌≡◌, sym, ap, ◌∙◌}
use mathlib.Core.List.{List, ◌++◌}
use native.Mathlib.Numerals.{add-one}
use native.Mathlib.Omega.{arith}
use Rattle.words.specs.Range.{gather}
use Rattle.words.proofs.Ranges.{gather_more, gather_parts}
use Rattle.text_puts.specs.Puts.{Room, Puts}
use Rattle.text_puts.proofs.Putting.{room-left, puts_room, puts_more}

module _ (a b : List ℕ) {buf : List ℕ} {at : ℕ} (h : Room buf at (a ++ b)) where
  pub front-room : Room buf at a
  front-room = room-left b h

  module _ {mid : List ℕ} {here : ℕ} (p : Puts buf at a mid here) where
    pub back-room : Room mid here b
    back-room = puts_room p h

    pub both_puts : {new : List ℕ} {end : ℕ} → Puts mid here b new end → Puts buf at (a ++ b) new end
    both_puts q = puts_more p q h

module _ (a b c : List ℕ) {buf : List ℕ} {at : ℕ} (h : Room buf at (a ++ b ++ c)) where
  pub first-room : Room buf at a
  first-room = room-left b (room-left c h)

  module _ {mid : List ℕ} {here : ℕ} (p : Puts buf at a mid here) where
    pub second_room : Room mid here b
    second_room = puts_room p (room-left c h)

    module _ {next : List ℕ} {there : ℕ} (q : Puts mid here b next there) where
      pub third_room : Room next there c
      third_room = puts_room (puts_more p q (room-left c h)) h

      pub three_puts : {new : List ℕ} {end : ℕ} → Puts next there c new end → Puts buf at (a ++ b ++ c) new end
      three_puts r = puts_more (puts_more p q (room-left c h)) r h

-- the texts of a range from j on, as far as i
module _ (f : ℕ → List ℕ) (j : ℕ) {i n : ℕ} (below : i < n) {buf : List ℕ} {at : ℕ} (h : Room buf at (gather f n j)) where
  range_room : Room buf at (gather f i j ++ f (j + i))
  range_room =
      let e : n ≡ suc i + (n - suc i) = omega arith in
      let parts : gather f n j ≡ gather f i j ++ f (j + i) ++ gather f (n - suc i) (j + suc i) =
      ap (λ (k : ℕ). gather f k j) e ∙ gather_parts f (suc i) (n - suc i) j ∙ rw (gather_more f i j) in
      room-left (gather f (n - suc i) (j + suc i)) (rw parts at h)

  module _ {mid : List ℕ} {here : ℕ} (p : Puts buf at (gather f i j) mid here) {v : ℕ} (e : j + i ≡ v) where
    pub turn-room : Room mid here (f v)
    turn-room = rw (sym e) (puts_room p range_room)

    pub turn_puts : {new : List ℕ} {end : ℕ} → Puts mid here (f v) new end → Puts buf at (gather f (i + 1) j) new end
    turn_puts q = rw (add-one i, gather_more f i j) (puts_more p (rw e q) range_room)
