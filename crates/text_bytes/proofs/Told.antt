-- What is shown of a read tells the read: two reads that look alike are the same. Assumes nothing.
use Prim.Native.Nat.{ℕ, suc, ◌+◌, ◌/◌, ◌%◌, ◌^◌, ◌≤◌, ◌<◌}
use mathlib.Core.Path.{◌≡◌, refl, sym, ap, ◌∙◌}
use mathlib.Core.Logic.{◌⊎◌, inl, inr, ⊎_elim}
use mathlib.Core.Bool.{true, false}
use mathlib.Core.List.{List, [], ◌∷◌, ◌++◌}
use native.Mathlib.Omega.{arith}
use native.Mathlib.Nat.{mod-lt}
use lib.ListN.{length, get_or}
use lib.Dec.{lit<}
use borrow.Author.Tests.{lt-ltb, le-ltb}
use Rattle.io.specs.Digits.{hex_digit_ascii}
use Rattle.words.specs.Range.{gather}
use Rattle.words.specs.Logs.{within}
use Rattle.words.proofs.Tests.{either, lt_or_ge, clash}
use Rattle.words.proofs.Ranges.{gather_along}
use Rattle.text_puts.specs.Ascii.{ascii}
use Rattle.text_bytes.specs.Bytes.{backslash, plain_byte, digits_text, byte_text, bytes_text}
use Rattle.text_bytes.proofs.Bytes.{byte_itself, byte_digits}

bytes_first : (b : ℕ) (x : List ℕ) → bytes_text (b ∷ x) ≡ byte_text b ++ bytes_text x
unfolding bytes_text gather
bytes_first b x =
    ap (λ (l : List ℕ). byte_text b ++ l)
    (gather_along (λ k. byte_text (get_or (b ∷ x) k 0)) (λ k. byte_text (get_or x k 0)) (length x) 1 0
    (λ k l. let e : 1 + k ≡ suc (0 + k) = omega arith in ap (λ (v : ℕ). byte_text (get_or (b ∷ x) v 0)) e))

-- two digits that look alike
glyph_told : (d e : ℕ) → d < 16 → e < 16 → hex_digit_ascii d ≡ hex_digit_ascii e → d ≡ e
glyph_told d e h k p = go (lt_or_ge d 10) (lt_or_ge e 10)
  where
    go : (d < 10) ⊎ (10 ≤ d) → (e < 10) ⊎ (10 ≤ e) → d ≡ e
    go (inl a) (inl b) = omega (arith, rw (lt-ltb d 10 a, lt-ltb e 10 b) at p)
    go (inl a) (inr b) = absurd (omega (arith, rw (lt-ltb d 10 a, le-ltb e 10 b) at p))
    go (inr a) (inl b) = absurd (omega (arith, rw (le-ltb d 10 a, lt-ltb e 10 b) at p))
    go (inr a) (inr b) = omega (arith, rw (le-ltb d 10 a, le-ltb e 10 b) at p)

-- two bytes that look alike, whatever follows
module _ (a b : ℕ) (u v : List ℕ) (p : byte_text a ++ u ≡ byte_text b ++ v) where
  -- a byte that stands for itself is not the backslash
  not-backslash : (c : ℕ) → plain_byte c ≡ true → c ≡ backslash → {A : Type 0} → A
  unfolding plain_byte within
  not-backslash c t e = clash {b = plain_byte backslash} (rw e at t) refl

  itself_told : plain_byte a ≡ true → plain_byte b ≡ true → (a ≡ b) × (u ≡ v)
  itself_told s t = let q : a ∷ u ≡ b ∷ v = rw (byte_itself a s, byte_itself b t) at p in (cc q, cc q)

  left_told : plain_byte a ≡ true → plain_byte b ≡ false → (a ≡ b) × (u ≡ v)
  unfolding digits_text ascii
  left_told s t = let q = rw (byte_itself a s, byte_digits b t) at p in not-backslash a s (cc q)

  right_told : plain_byte a ≡ false → plain_byte b ≡ true → (a ≡ b) × (u ≡ v)
  unfolding digits_text ascii
  right_told s t = let q = rw (byte_digits a s, byte_itself b t) at p in not-backslash b t (cc q)

  module _ (h : a < 2 ^ 8) (k : b < 2 ^ 8) where
    digits_told : plain_byte a ≡ false → plain_byte b ≡ false → (a ≡ b) × (u ≡ v)
    unfolding digits_text ascii
    digits_told s t =
        let q = rw (byte_digits a s, byte_digits b t) at p in
        let high : a / 16 % 16 ≡ b / 16 % 16 = glyph_told (a / 16 % 16) (b / 16 % 16) (mod-lt (a / 16) (lit< tt)) (mod-lt (b / 16) (lit< tt)) (cc q) in
        let low : a % 16 ≡ b % 16 = glyph_told (a % 16) (b % 16) (mod-lt a (lit< tt)) (mod-lt b (lit< tt)) (cc q) in
        (omega (arith, high, low), cc q)

    byte_told : (a ≡ b) × (u ≡ v)
    byte_told =
        ⊎_elim
        (λ (s : plain_byte a ≡ true). ⊎_elim (itself_told s) (left_told s) (either (plain_byte b)))
        (λ (s : plain_byte a ≡ false). ⊎_elim (right_told s) (digits_told s) (either (plain_byte b)))
        (either (plain_byte a))

byte_some : (b : ℕ) (l : List ℕ) → [] ≡ byte_text b ++ l → {A : Type 0} → A
unfolding digits_text ascii
byte_some b l p =
    ⊎_elim
    (λ (t : plain_byte b ≡ true). absurd (omega (arith, ap length (rw (byte_itself b t) at p))))
    (λ (t : plain_byte b ≡ false). absurd (omega (arith, ap length (rw (byte_digits b t) at p))))
    (either (plain_byte b))

pub bytes_told : (x y : List ℕ) → ((i : ℕ) → get_or x i 0 < 2 ^ 8) → ((i : ℕ) → get_or y i 0 < 2 ^ 8) → bytes_text x ≡ bytes_text y → x ≡ y
unfolding bytes_text gather
bytes_told [] [] h k p = refl
bytes_told [] (b ∷ y) h k p = byte_some b (bytes_text y) (p ∙ bytes_first b y)
bytes_told (a ∷ x) [] h k p = byte_some a (bytes_text x) (sym p ∙ bytes_first a x)
bytes_told (a ∷ x) (b ∷ y) h k p =
    let r = byte_told a b (bytes_text x) (bytes_text y) (sym (bytes_first a x) ∙ p ∙ bytes_first b y) (h 0) (k 0) in
    let e : x ≡ y = bytes_told x y (λ i. h (suc i)) (λ i. k (suc i)) r.1 in
    cc (r.0, e)
