-- What is seen of each kind is its list: the lines of a mode, or the runs. Assumes nothing.
use Prim.Native.Nat.{ℕ}
use mathlib.Core.Path.{◌≡◌, refl, sym, subst, ◌∙◌}
use mathlib.Core.List.{List}
use Rattle.words.specs.Lists.{line_size, lines_at, lines, in_mode}
use Rattle.words.specs.Moves.{top}
use Rattle.words.proofs.Ranges.{gather-same}
use Rattle.words.proofs.Lines.{lines-top}
use Rattle.words_index.specs.Index.{entry_count}
use Rattle.words_index.proofs.OfList.{some_at, entries_counted}
use Rattle.words_runs.specs.Runs.{run_size, runs_at, runs}
use Rattle.words_runs.proofs.Lists.{runs-top}
use Rattle.row_cells.specs.Listing.{Listing}
use Rattle.call_periods.specs.declared.Sight.TheVariants.{Lines, Runs}
use Rattle.call_periods.specs.Periods.{row_size}
use Rattle.call_widths.specs.Looks.{look_at, looked, seen_at}

looked-lines : (x : List ℕ) (mode : ℕ) → looked x (Lines mode) ≡ lines x (in_mode x mode)
unfolding looked look_at
looked-lines x mode = gather-same (look_at x (Lines mode)) (lines_at x (in_mode x mode)) (top x) 1 (λ p a b. refl) ∙ sym (lines-top x (in_mode x mode))

looked-runs : (x : List ℕ) → looked x Runs ≡ runs x
unfolding looked look_at
looked-runs x = gather-same (look_at x Runs) (runs_at x) (top x) 1 (λ p a b. refl) ∙ sym (runs-top x)

-- a look at the lines lists them, and sees as many periods as their index has entries
pub listing_lines : (x : List ℕ) (mode : ℕ) (old out : List ℕ) (r : ℕ) → Listing (row_size (Lines mode)) old (looked x (Lines mode)) r out → Listing line_size old (lines x (in_mode x mode)) r out
unfolding row_size
listing_lines x mode old out r L = subst (λ (v : List ℕ). Listing line_size old v r out) (looked-lines x mode) L

pub seen_entries : (x : List ℕ) (mode : ℕ) → seen_at x (Lines mode) ≡ entry_count (lines x (in_mode x mode))
unfolding seen_at look_at some_at
seen_entries x mode = sym (entries_counted x (in_mode x mode))

-- a look at the runs lists them
pub listing_runs : (x old out : List ℕ) (r : ℕ) → Listing (row_size Runs) old (looked x Runs) r out → Listing run_size old (runs x) r out
unfolding row_size
listing_runs x old out r L = subst (λ (v : List ℕ). Listing run_size old v r out) (looked-runs x) L
