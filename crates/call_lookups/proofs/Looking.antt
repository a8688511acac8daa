-- The entries looked at so far are of other periods; what is then given is what the definition says. Assumes nothing.
use Prim.Native.Nat.{ℕ, ◌≤◌, ◌<◌}
use mathlib.Core.Path.{◌≡◌, refl, sym}
use mathlib.Core.List.{List}
use native.Mathlib.Omega.{arith}
use lib.Dec.{eqb}
use borrow.Author.Tests.{eq-eqb, lt-ltb, le-ltb}
use Rattle.std.specs.Prelude.{Some, None}
use Rattle.words.specs.Rows.{rows, cell}
use Rattle.words.proofs.Searches.{Missed, first_hit, first_ended}
use Rattle.words_index.specs.Index.{entry_size, first_entry}
use Rattle.words_index.specs.Calls.{lookup_gives}

module _ (s : List ℕ) (p k : ℕ) (m : Missed (λ h. eqb (cell entry_size s h 0) p) 0 k) where
  pub entry_here : k < rows entry_size s → cell entry_size s k 0 ≡ p → k ≡ first_entry s p
  unfolding first_entry
  entry_here b e = sym (first_hit (λ h. eqb (cell entry_size s h 0) p) (rows entry_size s) 0 k m (omega arith) (omega arith) (eq-eqb (cell entry_size s k 0) p e))

  pub entry_none : k ≤ rows entry_size s → rows entry_size s ≤ k → k ≡ first_entry s p
  unfolding first_entry
  entry_none a b = sym (first_ended (λ h. eqb (cell entry_size s h 0) p) (rows entry_size s) 0 k m (omega arith))

module _ (s : List ℕ) (p k : ℕ) (e : k ≡ first_entry s p) where
  pub looked_entry : (f n c : ℕ) → k < rows entry_size s → f ≡ cell entry_size s k 1 → n ≡ cell entry_size s k 2 → c ≡ cell entry_size s k 3 → Some (record { place = k; first = f; lines = n; largest = c }) ≡ lookup_gives s p
  unfolding lookup_gives
  looked_entry f n c b u v w = rw (← e, lt-ltb k (rows entry_size s) b, u, v, w) refl

  pub looked-none : rows entry_size s ≤ k → None ≡ lookup_gives s p
  unfolding lookup_gives
  looked-none b = rw (← e, le-ltb k (rows entry_size s) b) refl
