-- What `runs` answers and leaves: each answer says what document 02 says. Assumes nothing.
use Prim.Native.Nat.{ℕ, ◌≤◌, ◌<◌}
use mathlib.Core.Path.{◌≡◌}
use mathlib.Core.List.{List}
use lib.ListN.{length, replicate}
use borrow.Author.Tests.{lt-ltb, le-ltb}
use Rattle.std.specs.Prelude.{Result, Ok, Err}
use Rattle.words.specs.Reads.{most}
use Rattle.words.specs.Rows.{rows}
use Rattle.words.specs.Answers.{success, refusal, refused_says, says, counted_says}
use Rattle.words.specs.Calls.{refuse, too_long, afterwards, list_afterwards}
use Rattle.words_runs.specs.Runs.{run_size, runs as runs_of, run_count}
use Rattle.words_runs.specs.Calls.{runs_answer, runs_leaves}
use Rattle.words.specs.declared.Refusal.{Refusal}
use Rattle.words_runs.proofs.RunLayout.{run-some}
use Rattle.row_cells.specs.Listing.{Listing}
use Rattle.row_cells.proofs.Listed.{listing_rows, listing_short, listing_fits, listing_front}

-- the contract of `runs`: what it answers, and what it leaves in the slice
abbrev pub Says : List ℕ → List ℕ → Result ℕ Refusal → List ℕ → Type 0
Says x out a out' = (counted_says a ≡ runs_answer x out) × (out' ≡ runs_leaves x out)

module _ (x out : List ℕ) where
  pub long_said : most < length x → Says x out (Err (Refusal.TooLong (length x))) out
  unfolding says refused_says runs_answer runs_leaves list_afterwards afterwards refuse too_long refusal
  long_said l = (rw (lt-ltb most (length x) l), rw (lt-ltb most (length x) l))

  module _ (few : length x ≤ most) (r : ℕ) (out' : List ℕ) (L : Listing run_size out (runs_of x) r out') where
    pub short_said : rows run_size out' < r → Says x out (Err (Refusal.ListFull r)) (replicate (length out') 0)
    unfolding says refused_says runs_answer runs_leaves list_afterwards afterwards refuse too_long refusal run_count
    short_said l =
        let t = listing_short run_size out (runs_of x) out' r run-some L l in
        (rw (le-ltb most (length x) few, t, listing_rows run_size out (runs_of x) out' r run-some L), rw (le-ltb most (length x) few, t, L.same))

    pub runs_said : r ≤ rows run_size out' → Says x out (Ok r) out'
    unfolding says refused_says runs_answer runs_leaves list_afterwards afterwards refuse too_long success run_count
    runs_said l =
        let t = listing_fits run_size out (runs_of x) out' r run-some L l in (
          rw (le-ltb most (length x) few, t, listing_rows run_size out (runs_of x) out' r run-some L),
          rw (le-ltb most (length x) few, t) (listing_front run_size out (runs_of x) out' r run-some L l),
        )
