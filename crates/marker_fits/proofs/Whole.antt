-- A motif is primitive exactly if its root is the whole of it. Assumes nothing.
use Prim.Native.Nat.{ℕ, ◌≤◌, ◌<◌}
use mathlib.Core.Path.{◌≡◌}
use mathlib.Core.Bool.{true, false}
use mathlib.Core.List.{List}
use native.Mathlib.Omega.{arith}
use lib.ListN.{length}
use borrow.Author.Tests.{not-true}
use Rattle.words.specs.Repeats.{primitive}
use Rattle.words.proofs.Tests.{fails}
use Rattle.words_claims.specs.Claims.{root}
use Rattle.words_claims.proofs.Roots.{root_high, root_whole}

module _ (m : List ℕ) (some : 1 ≤ length m) (r : ℕ) (e : r ≡ root m 1 (length m)) where
  pub whole : length m ≤ r → primitive m 1 (length m) ≡ true
  whole l = (root_whole m 1 (length m) some (omega arith)).1 (omega (arith, e, l, root_high m 1 (length m) some))

  pub not_whole : r < length m → primitive m 1 (length m) ≡ false
  not_whole l = not-true _ (fails (primitive m 1 (length m)) (λ t. omega (arith, e, l, (root_whole m 1 (length m) some (omega arith)).0 t)))
