-- `call_tables::is_width` meets its contract: the range of the code is the definition's. Assumes nothing.
use Prim.Native.Nat.{ℕ}
use mathlib.Core.Path.{◌≡◌}
use mathlib.Core.Bool.{Bool, false, cond, ◌&&◌}
use native.Mathlib.Omega.{arith}
use Rattle.std.specs.Ordering.{nat_cmp, is_lt, is_le}
use Rattle.std.proofs.lemmas.Bool.Decides.{nat_tests}
use Rattle.words.specs.Logs.{within}
use Rattle.call_tables.proofs.is_width.Goals as goal

in_range : (n v s e : ℕ) (x r : Bool) → s ≡ 1 → e ≡ n → x ≡ false → r ≡ is_le (nat_cmp s v) && cond x (is_lt (nat_cmp v e)) (is_le (nat_cmp v e)) → r ≡ within 1 n v
unfolding within
in_range n v s e x r p q z t = grind (arith, nat_tests)

pub returns : goal.returns
returns c = let r = c.new.ensures in in_range _ _ _ _ _ _ r.start r.end r.exhausted c.contains.ensures.value
