-- The test of the definitions is that of `==`, byte by byte. Assumes nothing.
use mathlib.Core.Path.{◌≡◌, refl, ap, ◌∙◌}
use mathlib.Core.Bool.{Bool, true, false, ◌&&◌}
use mathlib.Core.List.{List, [], ◌∷◌}
use Prim.Native.Nat.{ℕ}
use lib.Dec.{eqb}
use Rattle.std.specs.Cmp.Lexicographic.{pointwise}
use Rattle.words.specs.Reads.{same}

pub same_told : (a b : List ℕ) → same a b ≡ pointwise eqb a b
unfolding same
same_told [] [] = refl
same_told [] (y ∷ b) = refl
same_told (x ∷ a) [] = refl
same_told (x ∷ a) (y ∷ b) = heads (eqb x y) ∙ ap (λ (t : Bool). eqb x y && t) (same_told a b)
  where
    heads : (t : Bool) → (elim t [ true ↦ same a b | false ↦ false ]) ≡ t && same a b
    heads true = refl
    heads false = refl
