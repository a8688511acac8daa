-- The difference of two small numbers as the machine makes it on signed integers. Assumes nothing.
use Prim.Native.Nat.{ℕ, zero, suc, ◌+◌, ◌-◌, ◌<◌}
use mathlib.Core.Path.{◌≡◌, refl, sym, ap, subst, ◌∙◌}
use mathlib.Core.Logic.{◌⊎◌, inl, inr}
use mathlib.Core.Bool.{true, false}
use native.Mathlib.Omega.{arith}
use lib.Dec.{ltb}
use lib.IntN.{pos, sub_ℕ, ◌-ℤ◌}
use borrow.Author.Tests.{le-ltb}
use mir.Syntax.{w32}
use mir.Val.{SFits, to_z, of_z}
use mir.ValLaws.{to_z-of_z}
use Rattle.words.proofs.Tests.{either}

-- small enough for the difference of two to fit: so are a count of copies and a byte
abbrev pub Small : ℕ → Type 0
Small n = n < 65536

-- a small number as a signed one
signed : (n : ℕ) → Small n → to_z w32 n ≡ pos n
signed n h = to_z-of_z w32 (pos n) (record { sfits = omega arith })

difference : (a b : ℕ) → pos a -ℤ pos b ≡ sub_ℕ a b
difference a zero = let e : a + 0 ≡ a - 0 = omega arith in ap pos e ∙ sym (rw (le-ltb a 0 (omega arith)))
difference a (suc b) = refl

fits : (a b : ℕ) → Small a → Small b → SFits w32 (sub_ℕ a b)
fits a b h l = go (either (ltb a b))
  where
    go : (ltb a b ≡ true) ⊎ (ltb a b ≡ false) → SFits w32 (sub_ℕ a b)
    go (inl t) = record { sfits = rw t (omega arith) }
    go (inr t) = record { sfits = rw t (omega arith) }

module _ (a b : ℕ) (h : Small a) (l : Small b) where
  made : to_z w32 a -ℤ to_z w32 b ≡ sub_ℕ a b
  made = (λ i. signed a h i -ℤ signed b l i) ∙ difference a b

  pub difference_fits : SFits w32 (to_z w32 a -ℤ to_z w32 b)
  difference_fits = subst (SFits w32) (sym made) (fits a b h l)

  pub difference_is : to_z w32 (of_z w32 (to_z w32 a -ℤ to_z w32 b)) ≡ sub_ℕ a b
  difference_is = to_z-of_z w32 (to_z w32 a -ℤ to_z w32 b) difference_fits ∙ made
