-- Where the house list has a line, and a marker: what the functions answer, way by way, and what an answer says. Assumes nothing.
use Prim.Native.Nat.{ℕ, ◌-◌, ◌≤◌, ◌<◌}
use mathlib.Core.Path.{◌≡◌, refl, sym, ◌∙◌}
use mathlib.Core.Bool.{Bool, true, false, cond}
use mathlib.Core.List.{List}
use Rattle.std.specs.Prelude.{Option, Some, None}
use Rattle.std.specs.Bool.{then_some}
use native.Mathlib.Omega.{arith}
use lib.ListN.{length, take, drop}
use Rattle.words.specs.Reads.{same}
use Rattle.words_markers.specs.Houses.{line_end, line_start, has_line, house_line, house_has}
use Rattle.words_markers.proofs.Houses.{has-line, has_line_is, no_line_after, house_has_lem, house_has-not}
use Rattle.marker_houses.specs.Found.{line_found, house_place}

-- an answer taken apart
found_some : (t : Bool) (s a : ℕ) → Some a ≡ cond t (Some s) None → (t ≡ true) × (a ≡ s)
found_some true s a e = (refl, cc)
found_some false s a e = cc

found_none : (t : Bool) (s : ℕ) → None ≡ cond t (Some s) None → t ≡ false
found_none true s e = cc
found_none false s e = refl

module _ (h : List ℕ) (k : ℕ) where
  pub line-at : (a : ℕ) → a ≡ line_start h k → a ≤ length h → Some a ≡ line_found h k
  unfolding line_found
  line-at a e l = sym (rw (has-line h k (omega arith), ← e))

  pub line-none : (j : ℕ) → j < k → line_end h (line_start h j) ≡ length h → None ≡ line_found h k
  unfolding line_found
  line-none j l e = sym (rw (no_line_after h j k l e))

  pub at-line : (r : Option ℕ) (a : ℕ) → r ≡ line_found h k → r ≡ Some a → (a ≡ line_start h k) × (a ≤ length h)
  unfolding line_found
  at-line r a e q =
      let f = found_some (has_line h k) (line_start h k) a (sym q ∙ e) in
      (f.1, omega (arith, f.1, has_line_is h k f.0))

  module _ (m : List ℕ) where
    pub no_line : (r : Option ℕ) → r ≡ line_found h k → r ≡ None → None ≡ house_place h k m
    unfolding line_found house_place
    no_line r e q =
        sym (rw (house_has-not h k m (found_none (has_line h k) (line_start h k) (sym q ∙ e))))

    module _ (a b : ℕ) (e : a ≡ line_start h k) (l : a ≤ length h) (f : b ≡ line_end h a) where
      line-test : house_has h k m ≡ same (take (b - a) (drop a h)) m
      unfolding house_line
      line-test = house_has_lem h k m (has-line h k (omega arith)) ∙ sym (rw (f, e))

      pub line_told : (t : Bool) → t ≡ same (take (b - a) (drop a h)) m → then_some t a ≡ house_place h k m
      unfolding house_place
      line_told true q = sym (rw (line-test ∙ sym q, ← e))
      line_told false q = sym (rw (line-test ∙ sym q))

    -- an answer says whether the house list has the marker, and where
    pub at_house : (r : Option ℕ) (a : ℕ) → r ≡ house_place h k m → r ≡ Some a → (house_has h k m ≡ true) × (a ≡ line_start h k)
    unfolding house_place
    at_house r a e q = found_some (house_has h k m) (line_start h k) a (sym q ∙ e)

    pub not_house : (r : Option ℕ) → r ≡ house_place h k m → r ≡ None → house_has h k m ≡ false
    unfolding house_place
    not_house r e q = found_none (house_has h k m) (line_start h k) (sym q ∙ e)
