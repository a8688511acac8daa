-- Rows written one after another: none more, the rows of one number of a range more, one row more, and one that finds no room. Assumes nothing.
use Prim.Native.Nat.{ℕ, ◌+◌, ◌-◌, ◌*◌, ◌≤◌, ◌<◌}
use mathlib.Core.Path.{◌≡◌, refl, sym, ap, subst, ◌∙◌}
use mathlib.Core.List.{List, [], ◌++◌, append_assoc}
use native.Mathlib.Omega.{arith}
use native.Mathlib.Nat.{div-add-mod, mul-le-mul_left, le-div_iff_mul-le}
use lib.ListN.{length, drop, length-append, length-drop}
use lib.Seq.{sets-eq, take-append_seam, drop-append-add, drop-drop}
use Rattle.words.specs.Range.{gather}
use Rattle.words.specs.Rows.{rows, row, part}
use Rattle.words.proofs.Ranges.{append-nil, gather-next}
use Rattle.row_cells.specs.Stored.{stored}
use Rattle.row_cells.specs.Listing.{Listing, Adds}
use Rattle.row_cells.proofs.Stored.{stored-length}

pub adds_none : (c k : ℕ) (m out : List ℕ) → m ≡ [] → Adds c k k m out out
adds_none c k m out e old l L = subst (λ (v : List ℕ). Listing c old v k out) (sym (ap (λ (v : List ℕ). l ++ v) e ∙ append-nil l)) L

-- one list more of a range
pub adds_next : (c : ℕ) (f : ℕ → List ℕ) (d k r s : ℕ) (out out' out'' : List ℕ) → Adds c k r (gather f d 1) out out' → Adds c r s (f (d + 1)) out' out'' → Adds c k s (gather f (d + 1) 1) out out''
adds_next c f d k r s out out' out'' a b old l L =
    subst (λ (v : List ℕ). Listing c old v s out'') (append_assoc l (gather f d 1) (f (d + 1)) ∙ ap (λ (v : List ℕ). l ++ v) (sym (gather-next f d)))
    (b old (l ++ gather f d 1) (a old l L))

-- the front with m stored after it
front_more : {X : Type 0} (old l m : List X) → length (l ++ m) ≤ length old → stored (l ++ drop (length l) old) (length l) m ≡ (l ++ m) ++ drop (length (l ++ m)) old
unfolding stored
front_more {X} old l m h =
    let d : List X = drop (length l) old in
    sets-eq m (l ++ d) (length l) (rw (length-append l d, length-drop (length l) old) (omega (arith, h, length-append l m)))
    ∙ ap (λ (v : List X). v ++ m ++ drop (length l + length m) (l ++ d)) (take-append_seam l d)
    ∙ ap (λ (v : List X). l ++ m ++ v) (drop-append-add l d (length m) ∙ drop-drop (length m) (length l) old ∙ ap (λ (v : ℕ). drop v old) (sym (length-append l m)))

module _ {X : Type 0} (out : List X) (k : ℕ) (m : List X) where
  -- one row more of its own length
  longer : (old l : List X) → Listing (length m) old l k out → length (l ++ m) ≡ length m * (k + 1)
  longer old l L = length-append l m ∙ omega (arith, L.count)

  pub row_added : Adds (length m) k (k + 1) m out (stored out (length m * k) m)
  row_added old l L =
      record {
        same = stored-length out m (length m * k) _ refl ∙ L.same;
        count = longer old l L;
        front =
            λ h.
            let f : out ≡ l ++ drop (length l) old = L.front (omega (arith, h, length-append l m)) in
            ap (λ (v : List X). stored v (length m * k) m) f ∙ ap (λ (v : ℕ). stored (l ++ drop (length l) old) v m) (sym L.count) ∙ front_more old l m h;
      }

  pub row_lost : length out < length m * k + length m → Adds (length m) k (k + 1) m out out
  row_lost h old l L = record { same = L.same; count = longer old l L; front = λ g. absurd (omega (arith, h, g, longer old l L, L.same)) }

-- rows that there is room for fit
pub room_fits : {X : Type 0} (c : ℕ) (out : List X) (k : ℕ) → k ≤ rows c out → c * k ≤ length out
unfolding rows
room_fits c out k h = omega (arith, mul-le-mul_left c h, div-add-mod (length out) c)

-- and rows that fit have room
pub fits-room : {X : Type 0} (c : ℕ) → 1 ≤ c → (l : List X) (k : ℕ) → c * k ≤ length l → k ≤ rows c l
unfolding rows
fits-room c some l k h = (le-div_iff_mul-le {k = c} some).1 (omega arith)

-- a part of one row is that row
pub part-row : {X : Type 0} (c : ℕ) (l : List X) (k : ℕ) → part c l k (k + 1) ≡ row c l k
unfolding part row
part-row c l k = let e : c * (k + 1) - c * k ≡ c = omega arith in rw e

-- number j of a row lies in the slice
pub cell_inside : {X : Type 0} (c : ℕ) (l : List X) (k j : ℕ) → j < c → k < rows c l → c * k + j < length l
cell_inside c l k j h b = omega (arith, room_fits c l (k + 1) (omega arith))
