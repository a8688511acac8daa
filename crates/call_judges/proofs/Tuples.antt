-- The tests of the library's ranges and of its order of tuples are those of the definitions. Assumes nothing.
use Prim.Native.Nat.{ℕ, ◌-◌, ◌≤◌}
use mathlib.Core.Path.{◌≡◌}
use mathlib.Core.Bool.{Bool, false, cond, ◌&&◌, ◌||◌}
use native.Mathlib.Omega.{arith}
use lib.Dec.{ltb, eqb}
use Rattle.std.proofs.Common.{Some}
use Rattle.std.specs.Ordering.{nat_cmp, is_lt, is_le, is_some_and, partial_ordering_then}
use Rattle.std.proofs.lemmas.Bool.Decides.{nat_tests}
use Rattle.words.specs.Logs.{within}

pub below_within : (a b v : ℕ) → 1 ≤ a → is_le (nat_cmp a v) && is_lt (nat_cmp v b) ≡ within a (b - 1) v
unfolding within
below_within a b v h = grind (arith, nat_tests)

pub upto_within : (a b v s e : ℕ) (x r : Bool) → s ≡ a → e ≡ b → x ≡ false → r ≡ is_le (nat_cmp s v) && cond x (is_lt (nat_cmp v e)) (is_le (nat_cmp v e)) → r ≡ within a b v
unfolding within
upto_within a b v s e x r p q z t = grind (arith, nat_tests)

module _ (a b p q s t : ℕ) where
  pub tuple_before
      : is_some_and is_lt (partial_ordering_then (partial_ordering_then (Some (nat_cmp a b)) (Some (nat_cmp p q))) (Some (nat_cmp s t)))
      ≡ ltb a b || (eqb a b && (ltb p q || (eqb p q && ltb s t)))
  tuple_before = grind (arith, nat_tests)
