-- The rows of a period, and what is kept for them, as they are read off the distances: each kind is its own. Assumes nothing.
use Prim.Native.Nat.{ℕ, ◌≤◌, ◌<◌}
use mathlib.Core.Path.{◌≡◌}
use mathlib.Core.Logic.{⊎_elim, ◌≢◌}
use mathlib.Core.List.{List, []}
use native.Mathlib.Omega.{arith}
use lib.ListN.{length}
use Rattle.words.specs.Reads.{at}
use Rattle.words.proofs.Tests.{lt_or_ge}
use Rattle.start_lines.proofs.Lines.{line_in_none}
use Rattle.start_runs.proofs.Runs.{run_in_none}
use Rattle.call_periods.specs.declared.Sight.{Sight}
use Rattle.call_periods.specs.declared.Sight.TheVariants.{Lines, Runs}
use Rattle.call_periods.specs.Periods.{row_in, Kept}

-- no start, no row
pub row_in_none : (dist : List ℕ) (sight : Sight) (p i : ℕ) → at dist i ≢ p → row_in dist sight p i ≡ []
unfolding row_in
row_in_none dist (Lines mode) p i ne = line_in_none dist mode p i ne
row_in_none dist Runs p i ne = run_in_none dist p i ne

-- before the first place nothing is asked of the counts but that there is one for each place
pub kept_none : (dist : List ℕ) (sight : Sight) (p : ℕ) (count : List ℕ) → length count ≡ 1000 → Kept dist sight p 1 count
unfolding Kept
kept_none dist (Lines mode) p count c = record { long = c; held = λ j a b e w. absurd (omega (arith, a, b)) }
kept_none dist Runs p count c = c

pub kept_long : (dist : List ℕ) (sight : Sight) (p i : ℕ) (count : List ℕ) → Kept dist sight p i count → length count ≡ 1000
unfolding Kept
kept_long dist (Lines mode) p i count K = K.long
kept_long dist Runs p i count K = K

-- where there is no start, no count is asked of
pub kept_on : (dist : List ℕ) (sight : Sight) (p d i : ℕ) (count : List ℕ) → ((j : ℕ) → d ≤ j → j < i → at dist j ≢ p) → Kept dist sight p d count → Kept dist sight p i count
unfolding Kept
kept_on dist (Lines mode) p d i count none K = record {
  long = K.long;
  held = λ j a b e w. ⊎_elim (λ l. K.held j a l e w) (λ l. absurd (none j l b e)) (lt_or_ge j d);
}
kept_on dist Runs p d i count none K = K
