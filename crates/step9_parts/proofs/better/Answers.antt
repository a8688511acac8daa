-- `step9_parts::better` meets its contract: the order of the pairs is the way of `better_of`. Assumes nothing.
use Prim.Native.Nat.{ℕ}
use mathlib.Core.Path.{◌≡◌, ◌∙◌}
use native.Mathlib.Omega.{arith}
use Rattle.std.specs.Prelude.{Some}
use Rattle.std.specs.Ordering.{nat_cmp, is_lt, is_some_and, partial_ordering_then}
use Rattle.std.proofs.lemmas.Bool.Decides.{nat_tests}
use Rattle.step9_parts.specs.Turns.{better_of}
use Rattle.step9_parts.proofs.better.Goals as goal

pairs_less : (b z c y : ℕ) → is_some_and is_lt (partial_ordering_then (Some (nat_cmp z y)) (Some (nat_cmp c b))) ≡ better_of b z c y
unfolding better_of
pairs_less b z c y = grind (arith, nat_tests)

pub returns : goal.returns
returns c = c.lt.ensures ∙ pairs_less _ _ _ _
