-- A place of the array is a start if and only if it is one of the read. Assumes nothing.
use Prim.Native.Nat.{ℕ, ◌-◌, ◌≤◌, ◌<◌}
use mathlib.Core.Path.{◌≡◌, sym, ◌∙◌}
use mathlib.Core.Logic.{⊎_elim, ◌≢◌}
use mathlib.Core.List.{List}
use native.Mathlib.Omega.{arith}
use lib.ListN.{length, get_or-eq_default}
use Rattle.words.specs.Reads.{at}
use Rattle.words.specs.Groups.{table, gap}
use Rattle.words.proofs.Tests.{lt_or_ge}
use Rattle.words.proofs.Repeats.{gap-next}
use Rattle.start_places.specs.Starts.{Near, Gapped}

module _ (dist : List ℕ) (p : ℕ) (N : Near p dist) where
  -- no start past the array
  pub past : (i : ℕ) → 1000 < i → at dist i ≢ p
  unfolding at
  past i h e = omega (arith, N.some, e, get_or-eq_default dist 0 {n = i - 1} (omega (arith, N.long)))

  module _ (x : List ℕ) (G : Gapped x p dist) where
    -- no start past the read
    pub no_start_beyond : (i : ℕ) → length x < i → at dist i ≢ p
    no_start_beyond i l e = ⊎_elim (λ h. past i h e) (λ h. omega (arith, N.some, e, G.beyond i l h)) (lt_or_ge 1000 i)

    pub start_gap : (i : ℕ) → 1 ≤ i → at dist i ≡ p → gap (table x p) i ≡ p
    start_gap i a e = ⊎_elim (λ l. absurd (no_start_beyond i l e)) (λ l. sym (G.held i a l) ∙ e) (lt_or_ge (length x) i)

    pub gap_start : (i : ℕ) → 1 ≤ i → gap (table x p) i ≡ p → at dist i ≡ p
    gap_start i a e = G.held i a (omega (arith, (gap-next x p i N.some a e).0.1, N.some)) ∙ e
