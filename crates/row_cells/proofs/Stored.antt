-- Runs of stores into a slice: two runs, one behind the other, are one; a run from the front; one number more of a row. Assumes nothing.
use Prim.Native.Nat.{ℕ, suc, ◌+◌, ◌≤◌, ◌<◌}
use mathlib.Core.Path.{◌≡◌, refl, sym, ap, ◌∙◌}
use mathlib.Core.List.{List, [], ◌∷◌, ◌++◌}
use native.Mathlib.Omega.{arith}
use native.Mathlib.Numerals.{add-one}
use lib.ListN.{length, get_or, set, take, drop}
use lib.Seq.{sets-eq, length-sets, length-take-le, take_all, take-suc}
use Rattle.std.proofs.lemmas.List.{get_or_default}
use Rattle.row_cells.specs.Stored.{stored}

pub stored-append : {X : Type 0} (l u v : List X) (i : ℕ) → stored l i (u ++ v) ≡ stored (stored l i u) (i + length u) v
unfolding stored
stored-append l [] v i = ap (λ (k : ℕ). stored l k v) (omega arith)
stored-append l (a ∷ u) v i = stored-append (set l i a) u v (suc i) ∙ ap (λ (k : ℕ). stored (stored (set l i a) (suc i) u) k v) (omega arith)

pub stored-none : {X : Type 0} (l : List X) (i : ℕ) → stored l i [] ≡ l
unfolding stored
stored-none l i = refl

pub stored-length : {X : Type 0} (l v : List X) (i : ℕ) (r : List X) → r ≡ stored l i v → length r ≡ length l
unfolding stored
stored-length l v i r e = ap length e ∙ length-sets l i v

-- a run from the front
pub stored-front : {X : Type 0} (l v : List X) → length v ≤ length l → stored l 0 v ≡ v ++ drop (length v) l
unfolding stored
stored-front l v h = let e : 0 + length v ≡ length v = omega arith in sets-eq v l 0 (omega arith) ∙ ap (λ (k : ℕ). v ++ drop k l) e

-- the first j numbers of a row are stored, and one more, x
pub row_next : {X : Type 0} (l row out : List X) (i j : ℕ) (x : X) → j < length row → x ≡ get_or row j x → out ≡ stored l i (take j row) → set out (i + j) x ≡ stored l i (take (j + 1) row)
unfolding stored
row_next l row out i j x h q e =
    ap (λ (v : List _). set v (i + j) x) e
    ∙ ap (λ (k : ℕ). set (stored l i (take j row)) (i + k) x) (sym (length-take-le j row (omega arith)))
    ∙ sym (stored-append l (take j row) (x ∷ []) i)
    ∙ ap (λ (v : _). stored l i (take j row ++ v ∷ [])) q
    ∙ ap (stored l i) (sym (take-suc row j x h) ∙ ap (λ (k : ℕ). take k row) (sym (add-one j)))

pub row_more : (l row out : List ℕ) (i j : ℕ) → j < length row → out ≡ stored l i (take j row) → set out (i + j) (get_or row j 0) ≡ stored l i (take (j + 1) row)
row_more l row out i j h e = row_next l row out i j (get_or row j 0) h (get_or_default row j 0 (get_or row j 0) h) e

-- the whole row is
pub row_whole : {X : Type 0} (l row out : List X) (i j : ℕ) → length row ≤ j → out ≡ stored l i (take j row) → out ≡ stored l i row
row_whole l row out i j h e = e ∙ ap (stored l i) (take_all j row h)
