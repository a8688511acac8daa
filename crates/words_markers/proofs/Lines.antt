-- A line of the house list in words: so many newlines stand before it, none in it, and one right behind it unless the text ends there; and that the house list has a marker exactly
-- if such a line is the motif. Assumes nothing.
use Prim.Native.Nat.{ℕ, zero, suc, ◌+◌, ◌-◌, ◌≤◌, ◌<◌}
use mathlib.Core.Path.{◌≡◌, refl, sym, ap, subst, ◌∙◌}
use mathlib.Core.Logic.{◌↔◌, ⊎_elim}
use mathlib.Core.Bool.{true, false}
use mathlib.Core.List.{List}
use native.Mathlib.Omega.{arith}
use lib.ListN.{length, take, drop}
use Rattle.words.specs.Range.{bit, sum, count}
use Rattle.words.specs.Reads.{same}
use Rattle.words.proofs.Tests.{lt_or_ge}
use Rattle.words.proofs.Sums.{count_parts, count_more, count_stop}
use Rattle.words.proofs.Stretches.{same_self}
use Rattle.words.proofs.Searches.{first_hit, first_ended}
use Rattle.words_markers.specs.Houses.{breaks, line_end, line_start, house_line, house_has}
use Rattle.words_markers.proofs.Houses.{end_low, end_high, end_none, end-breaks, start_first, start_next, has-line, house_has_lem, house_line_lem, line-size, house_inside, house_bytes}

-- the string m is line k of the text h, and starts at byte a
pub record Line (h : List ℕ) (k : ℕ) (m : List ℕ) (a : ℕ) : Type 0 where
  pub inside : a + length m ≤ length h
  pub bytes : take (length m) (drop a h) ≡ m
  pub number : count (breaks h) a 0 ≡ k
  pub begins : 1 ≤ a → breaks h (a - 1) ≡ true
  pub whole : (j : ℕ) → a ≤ j → j < a + length m → breaks h j ≡ false
  pub ends : a + length m < length h → breaks h (a + length m) ≡ true

module _ (h : List ℕ) where
  -- newlines before a byte
  abbrev before : ℕ → ℕ
  before a = count (breaks h) a 0

  before-none : (a b : ℕ) → a ≤ b → ((j : ℕ) → a ≤ j → j < b → breaks h j ≡ false) → before b ≡ before a
  before-none a b l none = count_stop (breaks h) a b 0 l (λ k c d. none k (omega arith) (omega arith))

  before-next : (a : ℕ) → breaks h a ≡ true → before (suc a) ≡ suc (before a)
  before-next a t = let q : bit (breaks h (0 + a)) ≡ 1 = ap (λ (v : ℕ). bit (breaks h v)) (omega arith) ∙ ap bit t in omega (arith, count_more (breaks h) a 0, q)

  before_grows : (a b : ℕ) → a ≤ b → before a ≤ before b
  before_grows a b l = let q : a + (b - a) ≡ b = omega arith in omega (arith, count_parts (breaks h) a (b - a) 0, ap (λ (v : ℕ). count (breaks h) v 0) q)

  none_first : before 0 ≡ 0
  unfolding count sum
  none_first = refl

  start_suc : (k : ℕ) → line_start h (suc k) ≡ suc (line_end h (line_start h k))
  start_suc k = let q : suc k ≡ k + 1 = omega arith in ap (line_start h) q ∙ start_next h k

  -- a line that is there starts behind as many newlines as its number says, the last of them right before it
  start_count : (k : ℕ) → line_start h k ≤ length h → before (line_start h k) ≡ k
  start_count zero l = rw (start_first h) none_first
  start_count (suc k) l =
      let s = line_start h k in
      let e = line_end h s in
      let n = start_suc k in
      let low = end_low h s in
      let b = before-next e (end-breaks h s (omega (arith, n, l, low)) (omega (arith, n, l))) in
      let c = before-none s e low (end_none h s) in
      ap before n ∙ b ∙ ap suc (c ∙ start_count k (omega (arith, n, l, low)))

  start_begins : (k : ℕ) → line_start h k ≤ length h → 1 ≤ line_start h k → breaks h (line_start h k - 1) ≡ true
  start_begins zero l a = absurd (omega (arith, a, start_first h))
  start_begins (suc k) l a =
      let n = start_suc k in
      let q : line_end h (line_start h k) ≡ line_start h (suc k) - 1 = omega (arith, n) in
      subst (λ (v : ℕ). breaks h v ≡ true) q (end-breaks h (line_start h k) (omega (arith, n, l, end_low h (line_start h k))) (omega (arith, n, l)))

  -- a line that is not there would need more newlines than there are
  past_count : (k : ℕ) → length h < line_start h k → before (length h) < k
  past_count zero l = absurd (omega (arith, l, start_first h))
  past_count (suc k) l = ⊎_elim (λ p. omega (arith, past_count k p)) there (lt_or_ge (length h) (line_start h k))
    where
      there : line_start h k ≤ length h → before (length h) < suc k
      there p =
          let s = line_start h k in
          let q : line_end h s ≡ length h = omega (arith, start_suc k, l, end_high h s p) in
          let c = before-none s (line_end h s) (end_low h s) (end_none h s) in
          omega (arith, ap before q, c, start_count k p)

  -- two places behind a newline, or at the front, with as many newlines before them, are one
  begins_once : (a b : ℕ) → (1 ≤ b → breaks h (b - 1) ≡ true) → before a ≡ before b → b ≤ a
  begins_once a b t e = ⊎_elim (λ l. absurd (apart l)) (λ l. l) (lt_or_ge a b)
    where
      apart : a < b → ⊥
      apart l =
          let q : suc (b - 1) ≡ b = omega arith in
          omega (arith, e, ap before q, before-next (b - 1) (t (omega arith)), before_grows a (b - 1) (omega arith))

  module _ (k : ℕ) (m : List ℕ) where
    line_of : house_has h k m ≡ true → Line h k m (line_start h k)
    line_of t =
        let s = line_start h k in
        let l = (house_line_lem h k m t).0 in
        let q : line_end h s ≡ s + length m = omega (arith, line-size h k m t, end_low h s) in
        record {
          inside = house_inside h k m t;
          bytes = house_bytes h k m t;
          number = start_count k l;
          begins = start_begins k l;
          whole = λ j c d. end_none h s j c (omega (arith, q, d));
          ends = λ c. subst (λ (v : ℕ). breaks h v ≡ true) q (end-breaks h s l (omega (arith, q, c)));
        }

    module _ (a : ℕ) (L : Line h k m a) where
      there : line_start h k ≤ length h
      there = ⊎_elim (λ p. absurd (omega (arith, past_count k p, L.number, before_grows a (length h) (omega (arith, L.inside))))) (λ l. l) (lt_or_ge (length h) (line_start h k))

      -- a line of that number starts where the definition says
      pub line_start_lem : a ≡ line_start h k
      line_start_lem =
          let e = start_count k there in
          omega (arith, begins_once a (line_start h k) (start_begins k there) (L.number ∙ sym e), begins_once (line_start h k) a L.begins (e ∙ sym L.number))

      line-end : line_end h a ≡ a + length m
      unfolding line_end
      line-end =
          let fits = L.inside in
          ⊎_elim (λ l. first_hit (breaks h) (length h - a) a (a + length m) L.whole (omega arith) (omega arith) (L.ends l))
          (λ l. first_ended (breaks h) (length h - a) a (a + length m) L.whole (omega arith))
          (lt_or_ge (a + length m) (length h))

      of_line : house_has h k m ≡ true
      unfolding house_line
      of_line =
          let q : line_end h a - a ≡ length m = omega (arith, line-end) in
          let e : house_line h k ≡ m = ap (λ (v : ℕ). take (line_end h v - v) (drop v h)) (sym line_start_lem) ∙ ap (λ (v : ℕ). take v (drop a h)) q ∙ L.bytes in
          house_has_lem h k m (has-line h k there) ∙ subst (λ (u : List ℕ). same u m ≡ true) (sym e) (same_self m)

    -- the house list has the marker if and only if its line of that number, by the count of newlines before it, is the motif
    pub house_has_means : (house_has h k m ≡ true) ↔ ((a : ℕ) × Line h k m a)
    house_has_means = (λ t. (line_start h k, line_of t), λ w. of_line w.0 w.1)
