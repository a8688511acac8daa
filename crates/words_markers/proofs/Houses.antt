-- The lines of the house list: where each starts and ends, and which are there. Assumes nothing.
use Prim.Native.Nat.{ℕ, zero, suc, ◌+◌, ◌-◌, ◌≤◌, ◌<◌}
use mathlib.Core.Path.{◌≡◌, refl, ap, subst, ◌∙◌}
use mathlib.Core.Bool.{true, false}
use mathlib.Core.List.{List}
use native.Mathlib.Omega.{arith}
use lib.ListN.{length, take, drop, length-take, length-drop}
use borrow.Author.Tests.{le-leb, lt-leb, leb-true}
use Rattle.words.specs.Reads.{same}
use Rattle.words.proofs.Tests.{and_left, and_right}
use Rattle.words.proofs.Ranges.{found, Found}
use Rattle.words.proofs.Stretches.{same_is}
use Rattle.words_markers.specs.Houses.{breaks, line_end, line_start, has_line, house_line, house_has}

module _ (h : List ℕ) where
  end_found : (a : ℕ) → Found (breaks h) (length h - a) a (line_end h a)
  unfolding line_end
  end_found a = found (breaks h) (length h - a) a

  pub end_low : (a : ℕ) → a ≤ line_end h a
  end_low a = (end_found a).low

  pub end_high : (a : ℕ) → a ≤ length h → line_end h a ≤ length h
  end_high a l = omega (arith, (end_found a).high)

  -- no newline in the line, and one at its end where that is not the text's
  pub end_none : (a j : ℕ) → a ≤ j → j < line_end h a → breaks h j ≡ false
  end_none a = (end_found a).least

  pub end-breaks : (a : ℕ) → a ≤ length h → line_end h a < length h → breaks h (line_end h a) ≡ true
  end-breaks a l b = (end_found a).pass (omega arith)

  pub start_first : line_start h 0 ≡ 0
  unfolding line_start
  start_first = refl

  -- one line on
  pub start_next : (k : ℕ) → line_start h (k + 1) ≡ suc (line_end h (line_start h k))
  unfolding line_start
  start_next k = let e : k + 1 ≡ suc k = omega arith in ap (line_start h) e

  -- behind the text there is no line
  start_past : (k d : ℕ) → length h < line_start h k → length h < line_start h (k + d)
  start_past k zero l = let e : line_start h (k + 0) ≡ line_start h k = ap (line_start h) (omega arith) in omega arith
  start_past k (suc d) l =
      let e : line_start h (k + suc d) ≡ suc (line_end h (line_start h (k + d))) = ap (line_start h) (omega arith) ∙ start_next (k + d) in
      omega (arith, e, start_past k d l, end_low (line_start h (k + d)))

  pub has-line : (k : ℕ) → line_start h k ≤ length h → has_line h k ≡ true
  unfolding has_line
  has-line k l = le-leb (line_start h k) (length h) l

  pub has_line_is : (k : ℕ) → has_line h k ≡ true → line_start h k ≤ length h
  unfolding has_line
  has_line_is k t = leb-true (line_start h k) (length h) t

  -- no line follows one that ends with the text
  pub no_line_after : (j k : ℕ) → j < k → line_end h (line_start h j) ≡ length h → has_line h k ≡ false
  unfolding has_line
  no_line_after j k l e =
      let q : j + 1 + (k - (j + 1)) ≡ k = omega arith in
      let s : length h < line_start h (j + 1 + (k - (j + 1))) = start_past (j + 1) (k - (j + 1)) (omega (arith, start_next j, e)) in
      lt-leb (line_start h k) (length h) (subst (λ (v : ℕ). length h < line_start h v) q s)

  module _ (k : ℕ) (m : List ℕ) where
    -- the house list has the marker exactly if the line is there and is the motif
    pub house_has_lem : has_line h k ≡ true → house_has h k m ≡ same (house_line h k) m
    unfolding house_has
    house_has_lem t = rw t

    pub house_has-not : has_line h k ≡ false → house_has h k m ≡ false
    unfolding house_has
    house_has-not f = rw f

    pub house_line_lem : house_has h k m ≡ true → (line_start h k ≤ length h) × (house_line h k ≡ m)
    unfolding house_has
    house_line_lem t = (has_line_is k (and_left (has_line h k) (same (house_line h k) m) t), same_is (house_line h k) m (and_right (has_line h k) (same (house_line h k) m) t))

    -- then the motif lies in the text from the line's start on
    module _ (t : house_has h k m ≡ true) where
      pub line-size : length m ≡ line_end h (line_start h k) - line_start h k
      unfolding house_line
      line-size =
          let l = house_line_lem t in
          omega (arith, ap length l.1, length-take (line_end h (line_start h k) - line_start h k) (drop (line_start h k) h), length-drop (line_start h k) h, end_high (line_start h k) l.0)

      pub house_inside : line_start h k + length m ≤ length h
      house_inside = omega (arith, line-size, end_low (line_start h k), end_high (line_start h k) (house_line_lem t).0)

      pub house_bytes : take (length m) (drop (line_start h k) h) ≡ m
      unfolding house_line
      house_bytes = ap (λ (v : ℕ). take v (drop (line_start h k) h)) line-size ∙ (house_line_lem t).1
