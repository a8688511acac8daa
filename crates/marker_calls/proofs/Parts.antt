-- The part that is handed back, slice by slice: what its bytes are, in which block it lies and where it starts there; and the same as numbers. Assumes nothing.
use Prim.Native.Nat.{ℕ, ◌+◌, ◌-◌}
use mathlib.Core.Path.{◌≡◌, refl, ap}
use mathlib.Core.Bool.{cond}
use mathlib.Core.List.{List, []}
use native.Mathlib.Omega.{arith}
use lib.ListN.{length, take, drop}
use denote.Ref.{Bor}
use Rattle.std.specs.Prelude.{Option, Some, None}
use Rattle.words_markers.specs.Calls.{of_house, from_of, count_of, part_of}
use Rattle.words_markers.specs.declared.Shown.{Shown}
use Rattle.marker_calls.specs.Parts.{shown_part}

-- some bytes from a block and a place on are the part that is shown of the read x or of the house list h
abbrev Handed : Bor (List ℕ) → Bor (List ℕ) → List ℕ → List ℕ → ℕ → ℕ → Option Shown → Type 0
Handed x h m bytes block from s =
    (bytes ≡ part_of x.now h.now m s) × (block ≡ (cond (of_house s) h x).ref_ptr.0) × (from ≡ (cond (of_house s) h x).ref_ptr.1 + from_of s)

module _ (x h : Bor (List ℕ)) (m : List ℕ) (s : Option Shown) where
  pub of_house_lem : (a : ℕ) → s ≡ Some (Shown.House a) → Handed x h m (take (a + length m - a) (drop a h.now)) h.ref_ptr.0 (a + h.ref_ptr.1) s
  unfolding part_of of_house from_of count_of
  of_house_lem a e = let n : a + length m - a ≡ length m = omega arith in rw e (ap (λ (k : ℕ). take k (drop a h.now)) n, refl, omega arith)

  pub of_read : (a : ℕ) → s ≡ Some (Shown.Read a) → Handed x h m (take (a + length m - a) (drop a x.now)) x.ref_ptr.0 (a + x.ref_ptr.1) s
  unfolding part_of of_house from_of count_of
  of_read a e = let n : a + length m - a ≡ length m = omega arith in rw e (ap (λ (k : ℕ). take k (drop a x.now)) n, refl, omega arith)

  pub of_nothing : s ≡ None → Handed x h m [] x.ref_ptr.0 x.ref_ptr.1 s
  unfolding part_of of_house from_of count_of
  of_nothing e = rw e (refl, refl, omega arith)

module _ (m : List ℕ) (s : Option Shown) where
  pub house_numbers : (a : ℕ) → s ≡ Some (Shown.House a) → record { house = 1; from = a; count = length m } ≡ shown_part m s
  unfolding shown_part of_house from_of count_of
  house_numbers a e = rw e

  pub read_numbers : (a : ℕ) → s ≡ Some (Shown.Read a) → record { house = 0; from = a; count = length m } ≡ shown_part m s
  unfolding shown_part of_house from_of count_of
  read_numbers a e = rw e

  pub no_numbers : s ≡ None → record { house = 0; from = 0; count = 0 } ≡ shown_part m s
  unfolding shown_part of_house from_of count_of
  no_numbers e = rw e

  -- the numbers name the part that is shown
  pub part_bytes : (x h : List ℕ) → take (shown_part m s).count (drop (shown_part m s).from (cond (of_house s) h x)) ≡ part_of x h m s
  unfolding shown_part part_of
  part_bytes x h = refl
