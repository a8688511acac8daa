-- What `list` answers and leaves: each answer says what document 01 says. Assumes nothing.
use Prim.Native.Nat.{ℕ, ◌≤◌, ◌<◌}
use mathlib.Core.Path.{◌≡◌}
use mathlib.Core.List.{List}
use native.Mathlib.Omega.{arith}
use lib.ListN.{length, replicate}
use borrow.Author.Tests.{lt-ltb, le-ltb, le-leb, lt-leb}
use Rattle.std.specs.Prelude.{Result, Ok, Err}
use Rattle.words.specs.Reads.{most}
use Rattle.words.specs.Rows.{rows}
use Rattle.words.specs.Lists.{line_size, lines, line_count, in_mode}
use Rattle.words.specs.Logs.{within}
use Rattle.words.specs.Answers.{success, refusal, refused_says, says, counted_says}
use Rattle.words.specs.Calls.{refuse, too_long, afterwards, list_afterwards, list_answer, list_leaves}
use Rattle.words.specs.declared.Refusal.{Refusal}
use Rattle.words.proofs.LineLayout.{line-some}
use Rattle.row_cells.specs.Listing.{Listing}
use Rattle.row_cells.proofs.Listed.{listing_rows, listing_short, listing_fits, listing_front}

-- the contract of `list`: what it answers, and what it leaves in the slice
abbrev pub Says : List ℕ → ℕ → List ℕ → Result ℕ Refusal → List ℕ → Type 0
Says x mode out a out' = (counted_says a ≡ list_answer x mode out) × (out' ≡ list_leaves x mode out)

module _ (x : List ℕ) (mode : ℕ) (out : List ℕ) where
  pub long_said : most < length x → Says x mode out (Err (Refusal.TooLong (length x))) out
  unfolding says refused_says list_answer list_leaves list_afterwards afterwards refuse too_long refusal
  long_said l = (rw (lt-ltb most (length x) l), rw (lt-ltb most (length x) l))

  module _ (few : length x ≤ most) where
    pub mode_said : 1 < mode → Says x mode out (Err (Refusal.OutOfRange mode)) out
    unfolding says refused_says list_answer list_leaves list_afterwards afterwards refuse too_long refusal within
    mode_said l =
        (rw (le-ltb most (length x) few, le-leb 0 mode (omega arith), lt-leb mode 1 l), rw (le-ltb most (length x) few, le-leb 0 mode (omega arith), lt-leb mode 1 l))

    module _ (m : mode ≤ 1) (r : ℕ) (out' : List ℕ) (L : Listing line_size out (lines x (in_mode x mode)) r out') where
      abbrev made : List ℕ
      made = lines x (in_mode x mode)

      pub short_said : rows line_size out' < r → Says x mode out (Err (Refusal.ListFull r)) (replicate (length out') 0)
      unfolding says refused_says list_answer list_leaves list_afterwards afterwards refuse too_long refusal within line_count
      short_said l =
          let t = listing_short line_size out made out' r line-some L l in (
            rw (le-ltb most (length x) few, le-leb 0 mode (omega arith), le-leb mode 1 m, t, listing_rows line_size out made out' r line-some L),
            rw (le-ltb most (length x) few, le-leb 0 mode (omega arith), le-leb mode 1 m, t, L.same),
          )

      pub lines_said : r ≤ rows line_size out' → Says x mode out (Ok r) out'
      unfolding says refused_says list_answer list_leaves list_afterwards afterwards refuse too_long success within line_count
      lines_said l =
          let t = listing_fits line_size out made out' r line-some L l in (
            rw (le-ltb most (length x) few, le-leb 0 mode (omega arith), le-leb mode 1 m, t, listing_rows line_size out made out' r line-some L),
            rw (le-ltb most (length x) few, le-leb 0 mode (omega arith), le-leb mode 1 m, t) (listing_front line_size out made out' r line-some L l),
          )
