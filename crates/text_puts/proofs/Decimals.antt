-- The digits that `io::decimal` makes are `decimal`: as many as the fewest that hold the number, and there is one such count. A number
-- below 10 ^ k has at most k digits. Assumes nothing.
use Prim.Native.Nat.{ℕ, zero, suc, ◌+◌, ◌-◌, ◌/◌, ◌^◌, ◌≤◌, ◌<◌}
use mathlib.Core.Path.{◌≡◌, refl, ap, ◌∙◌}
use mathlib.Core.Logic.{⊎_elim}
use mathlib.Core.Bool.{true, false}
use mathlib.Core.List.{List, [], ◌∷◌, ◌++◌}
use native.Mathlib.Omega.{arith}
use native.Mathlib.Nat.{pow-suc, pow-le-pow_right, le_antisymm}
use lib.ListN.{length, length-append, take, set}
use lib.Dec.{lit<}
use borrow.Author.Tests.{lt-ltb, le-ltb}
use Rattle.io.specs.Digits.{last_digits, IsDigitCount}
use Rattle.words.proofs.Tests.{clash, lt_or_ge}
use Rattle.words.proofs.Ranges.{Found, found}
use Rattle.text_puts.specs.Numbers.{holds, places, decimal, number_text}
use Rattle.text_puts.specs.Puts.{Room, Puts}
use Rattle.text_puts.proofs.Putting.{room-left, puts_room, puts_more, puts_byte}

power_above : (m : ℕ) → m < 10 ^ m
power_above zero = lit< tt
power_above (suc m) = rw (pow-suc 10 m) (omega (arith, power_above m))

module _ (n : ℕ) where
  holds_true : (k : ℕ) → n < 10 ^ k → holds n k ≡ true
  unfolding holds
  holds_true k h = lt-ltb n (10 ^ k) h

  holds_false : (k : ℕ) → 10 ^ k ≤ n → holds n k ≡ false
  unfolding holds
  holds_false k h = le-ltb n (10 ^ k) h

  places_found : Found (holds n) n 1 (places n)
  unfolding places
  places_found = found (holds n) n 1

  places-below : (k : ℕ) → 1 ≤ k → n < 10 ^ k → places n ≤ k
  places-below k h l = ⊎_elim (λ b. clash (holds_true k l) (places_found.least k h b)) (λ g. g) (lt_or_ge k (places n))

  -- fewer digits than the fewest do not hold n
  places-least : (k : ℕ) → (1 < k → 10 ^ (k - 1) ≤ n) → k ≤ places n
  places-least k h = ⊎_elim few (λ g. g) (lt_or_ge (places n) k)
    where
      few : places n < k → k ≤ places n
      few b =
          let low : 1 ≤ places n = places_found.low in
          let enough : 10 ^ (k - 1) ≤ n = h (omega arith) in
          let reach : places n < 1 + n = omega (arith, power_above (k - 1)) in
          let less : 10 ^ places n ≤ 10 ^ (k - 1) = pow-le-pow_right (lit< tt) (omega arith) in
          clash (places_found.pass reach) (holds_false (places n) (omega arith))

  -- what `io::decimal` leaves at the front of a buffer
  pub decimal_is : (k : ℕ) (out : List ℕ) → IsDigitCount 10 1 n k → take k out ≡ last_digits 10 k n → take k out ≡ decimal n
  unfolding decimal
  decimal_is k out (h, l, m) e = e ∙ ap (λ (j : ℕ). last_digits 10 j n) (le_antisymm (places-least k m) (places-below k h l))

digits_length : (k n : ℕ) → length (last_digits 10 k n) ≡ k
digits_length zero n = refl
digits_length (suc k) n = length-append (last_digits 10 k (n / 10)) _ ∙ omega (arith, digits_length k (n / 10))

-- a number below 10 ^ k, and the byte after it
pub number_length : (n k after : ℕ) → 1 ≤ k → n < 10 ^ k → length (number_text n after) ≤ k + 1
unfolding number_text decimal
number_length n k after h l =
    rw (length-append (last_digits 10 (places n) n) (after ∷ []), digits_length (places n) n) (omega (arith, places-below n k h l))

-- the digits that were made, put as a word, and then the byte after them
module _ (n last : ℕ) {buf word : List ℕ} {at : ℕ} (e : word ≡ decimal n) (h : Room buf at (number_text n last)) where
  text_is : number_text n last ≡ word ++ (last ∷ [])
  unfolding number_text
  text_is = rw e

  joined : Room buf at (word ++ (last ∷ []))
  joined = rw text_is at h

  pub digits_room : Room buf at word
  digits_room = room-left (last ∷ []) joined

  module _ {mid : List ℕ} {next : ℕ} (p : Puts buf at word mid next) where
    pub byte_room : Room mid next (last ∷ [])
    byte_room = puts_room p joined

    pub number_puts : Puts buf at (number_text n last) (set mid next last) (next + 1)
    number_puts = rw text_is (puts_more p (puts_byte byte_room) joined)
