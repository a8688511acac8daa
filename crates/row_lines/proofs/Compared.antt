-- A line compared with what stands at a place of the lines: the code's test of three numbers is the test of two strings. Assumes nothing.
use Prim.Native.Nat.{ℕ, ◌-◌, ◌≤◌, ◌<◌}
use mathlib.Core.Path.{◌≡◌, refl, ap}
use mathlib.Core.Logic.{⊎_elim}
use mathlib.Core.Bool.{Bool, true, false, ◌&&◌}
use mathlib.Core.List.{List, [], ◌∷◌}
use native.Mathlib.Omega.{arith}
use lib.ListN.{length, get_or, take, drop, length-take, length-drop}
use lib.Seq.{take_all}
use lib.Dec.{eqb}
use Rattle.std.specs.Cmp.Lexicographic.{pointwise}
use Rattle.words.specs.Reads.{same}
use Rattle.words.specs.Lists.{line_of, line_size}
use Rattle.words.proofs.Tests.{either}
use Rattle.words.proofs.Stretches.{same_is}

same_compares : (u v : List ℕ) → pointwise eqb u v ≡ same u v
unfolding same
same_compares [] [] = refl
same_compares [] (b ∷ v) = refl
same_compares (a ∷ u) [] = refl
same_compares (a ∷ u) (b ∷ v) =
    elim (eqb a b) as (λ (t : Bool). t && pointwise eqb u v ≡ elim t [ true ↦ same u v | false ↦ false ]) [ true ↦ same_compares u v | false ↦ refl ]

-- what is left of the lines from a place on
pub rest_is : (l : List ℕ) (at : ℕ) → take (length l - at) (drop at l) ≡ drop at l
rest_is l at = take_all (length l - at) (drop at l) (omega (arith, length-drop at l))

module _ (i p e : ℕ) where
  -- there are fewer than three numbers
  pub line_short : (d : List ℕ) → length d < 3 → same (line_of i p e) (take line_size d) ≡ false
  unfolding line_of line_size
  line_short d h =
      ⊎_elim (λ t. absurd (omega (arith, ap length (same_is (i ∷ p ∷ e ∷ []) (take 3 d) t), length-take 3 d))) (λ t. t) (either (same (i ∷ p ∷ e ∷ []) (take 3 d)))

  -- there are three or more
  pub line_told : (d : List ℕ) → 3 ≤ length d → eqb i (get_or d 0 0) && (eqb p (get_or d 1 0) && (eqb e (get_or d 2 0) && true)) ≡ same (line_of i p e) (take line_size d)
  unfolding line_of line_size
  line_told [] h = absurd (omega arith)
  line_told (a ∷ []) h = absurd (omega arith)
  line_told (a ∷ b ∷ []) h = absurd (omega arith)
  line_told (a ∷ b ∷ c ∷ d) h = same_compares (i ∷ p ∷ e ∷ []) (a ∷ b ∷ c ∷ [])
