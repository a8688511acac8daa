-- A number that was read of row k, against the width that is looked for. Assumes nothing.
use Prim.Native.Nat.{ℕ}
use mathlib.Core.Path.{◌≡◌}
use mathlib.Core.List.{List}
use mathlib.Core.Logic.{◌≢◌}
use mathlib.Core.Bool.{true, false}
use borrow.Author.Tests.{eq-eqb, ne_eqb}
use Rattle.words.specs.Rows.{cell}
use Rattle.bench_agrees.specs.Parts.{differs}

module _ (c : ℕ) (l : List ℕ) (j k : ℕ) {v w : ℕ} (e : v ≡ cell c l k j) where
  pub differs_yes : v ≢ w → differs c l j w k ≡ true
  unfolding differs
  differs_yes ne = rw (← e, ne_eqb v w ne)

  pub differs_no : v ≡ w → differs c l j w k ≡ false
  unfolding differs
  differs_no q = rw (← e, eq-eqb v w q)
