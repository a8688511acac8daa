-- Texts put into a buffer one after another are their joined text put once, and room for the joined text is room for each: lengths and
-- fronts of lists. Assumes nothing.
use Prim.Native.Nat.{ℕ, ◌+◌}
use mathlib.Core.Path.{◌≡◌, refl, sym, ap, ◌∙◌}
use mathlib.Core.List.{List, [], ◌∷◌, ◌++◌, append_assoc}
use native.Mathlib.Numerals.{add-one}
use native.Mathlib.Omega.{arith}
use lib.ListN.{length, length-append, length-drop, take, drop, set}
use lib.Seq.{paste, paste-zero, length-take-le, take_at, drop_at, drop-drop, take-length, set_split}
use Rattle.text_puts.specs.Puts.{placed, Room, Puts}

-- the first part of a text has room where the text has
pub room-left : {buf a : List ℕ} {at : ℕ} (b : List ℕ) → Room buf at (a ++ b) → Room buf at a
room-left {a = a} b h = record { fits = omega (arith, h.fits, length-append a b) }

placed_is : (buf : List ℕ) (at : ℕ) (text : List ℕ) → placed buf at text ≡ take at buf ++ text ++ drop (at + length text) buf
unfolding placed
placed_is buf at text = refl

module _ {buf text : List ℕ} {at : ℕ} (h : Room buf at text) where
  -- what stands before the end of a text that was put
  front_length : length (take at buf ++ text) ≡ at + length text
  front_length = rw (length-append (take at buf) text, length-take-le at buf (omega arith))

  placed-length : length (placed buf at text) ≡ length buf
  unfolding placed
  placed-length =
      rw (length-append (take at buf ++ text) (drop (at + length text) buf), front_length, length-drop (at + length text) buf) (omega arith)

  placed-drop : drop (at + length text) (placed buf at text) ≡ drop (at + length text) buf
  unfolding placed
  placed-drop = drop_at (take at buf ++ text) (drop (at + length text) buf) (at + length text) front_length

  placed-take : take (at + length text) (placed buf at text) ≡ take at buf ++ text
  unfolding placed
  placed-take = take_at (take at buf ++ text) (drop (at + length text) buf) (at + length text) front_length

placed_more : (buf : List ℕ) (at : ℕ) (a b : List ℕ) → Room buf at (a ++ b) → placed (placed buf at a) (at + length a) b ≡ placed buf at (a ++ b)
placed_more buf at a b h =
    let r : Room buf at a = room-left b h in
    let far : at + length a + length b ≡ at + length (a ++ b) = omega (arith, length-append a b) in
    let rest : drop (at + length a + length b) (placed buf at a) ≡ drop (at + length (a ++ b)) buf =
    sym (drop-drop (length b) (at + length a) (placed buf at a))
    ∙ ap (drop (length b)) (placed-drop r)
    ∙ drop-drop (length b) (at + length a) buf
    ∙ ap (λ (k : ℕ). drop k buf) far in
    placed_is (placed buf at a) (at + length a) b
    ∙ rw (placed-take r, rest, append_assoc (take at buf) a b, placed_is buf at (a ++ b))

-- texts put one after another
module _ {buf mid a : List ℕ} {at here : ℕ} (p : Puts buf at a mid here) where
  pub puts_length : Room buf at a → length mid ≡ length buf
  puts_length h = rw p.bytes (placed-length h)

  -- room for a text and the next is room for the next, after the text
  pub puts_room : {b : List ℕ} → Room buf at (a ++ b) → Room mid here b
  puts_room {b} h = record { fits = omega (arith, h.fits, p.stop, puts_length (room-left b h), length-append a b) }

  pub puts_more : {b new : List ℕ} {end : ℕ} → Puts mid here b new end → Room buf at (a ++ b) → Puts buf at (a ++ b) new end
  puts_more {b = b} q h =
      record {
        bytes = q.bytes ∙ rw (p.bytes, p.stop) (placed_more buf at a b h);
        stop = omega (arith, q.stop, p.stop, length-append a b);
      }

pub puts_none : {buf text : List ℕ} {at : ℕ} → Room buf at text → Puts buf at [] buf at
unfolding placed
puts_none {buf} {text} {at} h = record { bytes = paste-zero buf at []; stop = omega arith }

-- all bytes of a word, copied one by one
pub puts_pasted : {buf word new : List ℕ} {at i : ℕ} → new ≡ paste buf at word i → i ≡ length word → Puts buf at word new (at + i)
unfolding placed
puts_pasted {word = word} e h = record { bytes = e ∙ rw (h, take-length word); stop = omega arith }

-- one byte
pub puts_byte : {buf : List ℕ} {at v : ℕ} → Room buf at (v ∷ []) → Puts buf at (v ∷ []) (set buf at v) (at + 1)
unfolding placed
puts_byte {buf} {at} {v} h =
    record {
      bytes = set_split buf at v (omega arith) ∙ rw (append_assoc (take at buf) (v ∷ []) (drop (at + 1) buf), add-one at);
      stop = omega arith;
    }

-- a text at the front
pub puts_front : {buf text new : List ℕ} {end : ℕ} → Puts buf 0 text new end → (new ≡ text ++ drop end buf) × (end ≡ length text)
unfolding placed
puts_front {buf} {text} {new} {end} p =
    let e : end ≡ length text = omega (arith, p.stop) in
    let z : 0 + length text ≡ end = omega arith in
    (p.bytes ∙ rw z, e)
