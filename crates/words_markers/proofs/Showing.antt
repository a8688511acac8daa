-- The motif shown: of which slice it is a part and where it starts, that it lies in that slice, and that it has the motif's bytes. Assumes nothing.
use Prim.Native.Nat.{ℕ, suc, ◌+◌, ◌-◌, ◌≤◌}
use mathlib.Core.Path.{◌≡◌, refl, ap, ◌∙◌}
use mathlib.Core.Logic.{◌⊎◌, inl, inr, ◌↔◌}
use mathlib.Core.Bool.{true, false, cond}
use mathlib.Core.List.{List}
use native.Mathlib.Omega.{arith}
use lib.ListN.{length, take, drop}
use Rattle.std.specs.Prelude.{Result, Ok, Err, Option, Some, None}
use Rattle.words.proofs.Tests.{either}
use Rattle.words.proofs.Told.{told_exactly}
use Rattle.words_markers.specs.Houses.{line_start, house_has}
use Rattle.words_markers.specs.Sites.{site}
use Rattle.words_markers.specs.Calls.{shown_for, shown, of_house, from_of, count_of}
use Rattle.words.specs.declared.Refusal.{Refusal}
use Rattle.words_markers.specs.declared.Shown.{Shown}
use Rattle.words_markers.proofs.Houses.{house_inside, house_bytes}
use Rattle.words_markers.proofs.Truth.{site-inside}

-- what an answer says: the read is scored and the house list has the marker, at that byte; it is scored and the house list has not, and the repeat starts behind that byte; or it is
-- not scored
abbrev pub Shows : List ℕ → List ℕ → ℕ → List ℕ → List ℕ → List ℕ → Option Shown → Type 0
Shows x h k u v m (Some (Shown.House a)) = (i : ℕ) × (site x u v m ≡ Ok i) × (house_has h k m ≡ true) × (a ≡ line_start h k)
Shows x h k u v m (Some (Shown.Read a)) = (site x u v m ≡ Ok (suc a)) × (house_has h k m ≡ false)
Shows x h k u v m None = (why : Refusal) × (site x u v m ≡ Err why)

module _ (x h : List ℕ) (k : ℕ) (u v m : List ℕ) where
  pub shows_told : (s : Option Shown) → Shows x h k u v m s → shown x h k u v m ≡ s
  unfolding shown shown_for
  shows_told (Some (Shown.House a)) s = ap (shown_for h k m) s.1 ∙ rw (s.2, ← s.3)
  shows_told (Some (Shown.Read a)) s = let q : suc a - 1 ≡ a = omega arith in ap (shown_for h k m) s.0 ∙ rw (s.1, q)
  shows_told None s = ap (shown_for h k m) s.1

  -- the repeat that is scored starts behind the byte that is shown first
  pub read_shows : (i : ℕ) → site x u v m ≡ Ok i → house_has h k m ≡ false → Shows x h k u v m (Some (Shown.Read (i - 1)))
  read_shows i e f = let q : i ≡ suc (i - 1) = omega (arith, (site-inside x u v m i e).0) in (e ∙ ap (λ (i : ℕ). Ok i) q, f)

  one_shows : (s : Option Shown) × Shows x h k u v m s
  one_shows = go (site x u v m) refl
    where
      scored : (i : ℕ) → site x u v m ≡ Ok i → (house_has h k m ≡ true) ⊎ (house_has h k m ≡ false) → (s : Option Shown) × Shows x h k u v m s
      scored i e (inl t) = (Some (Shown.House (line_start h k)), (i, e, t, refl))
      scored i e (inr f) = (Some (Shown.Read (i - 1)), read_shows i e f)

      go : (t : Result ℕ Refusal) → site x u v m ≡ t → (s : Option Shown) × Shows x h k u v m s
      go (Ok i) e = scored i e (either (house_has h k m))
      go (Err why) e = (None, (why, e))

  pub shown_exactly : (s : Option Shown) → (shown x h k u v m ≡ s) ↔ Shows x h k u v m s
  shown_exactly = told_exactly (shown x h k u v m) (Shows x h k u v m) shows_told one_shows

  -- a part of the house list lies in it, and is the motif; so does one of the read
  pub house_part : (a : ℕ) → shown x h k u v m ≡ Some (Shown.House a) → (a + length m ≤ length h) × (take (length m) (drop a h) ≡ m)
  house_part a e =
      let s = (shown_exactly (Some (Shown.House a))).0 e in
      (omega (arith, s.3, house_inside h k m s.2), ap (λ (b : ℕ). take (length m) (drop b h)) s.3 ∙ house_bytes h k m s.2)

  pub read_part : (a : ℕ) → shown x h k u v m ≡ Some (Shown.Read a) → (a + length m ≤ length x) × (take (length m) (drop a x) ≡ m)
  read_part a e =
      let n = site-inside x u v m (suc a) ((shown_exactly (Some (Shown.Read a))).0 e).0 in
      let q : a ≡ suc a - 1 = omega arith in
      (omega (arith, n.1), ap (λ (b : ℕ). take (length m) (drop b x)) q ∙ n.4)

  -- so what is shown lies in its slice, and so does the empty part
  shown-inside : (s : Option Shown) → shown x h k u v m ≡ s → from_of s + count_of m s ≤ length (cond (of_house s) h x)
  unfolding of_house from_of count_of
  shown-inside (Some (Shown.House a)) e = (house_part a e).0
  shown-inside (Some (Shown.Read a)) e = (read_part a e).0
  shown-inside None e = omega arith

  pub part-inside : let s = shown x h k u v m in from_of s + count_of m s ≤ length (cond (of_house s) h x)
  part-inside = shown-inside (shown x h k u v m) refl
