-- What `index` answers and leaves: each answer says what document 02 says. Assumes nothing.
use Prim.Native.Nat.{ℕ, ◌≤◌, ◌<◌}
use mathlib.Core.Path.{◌≡◌}
use mathlib.Core.Bool.{true, false}
use mathlib.Core.List.{List}
use native.Mathlib.Omega.{arith}
use borrow.Author.Tests.{lt-ltb, le-ltb}
use Rattle.std.specs.Prelude.{Result, Ok, Err}
use Rattle.words.specs.Rows.{rows}
use Rattle.words.specs.Answers.{success, refusal, refused_says, says, counted_says}
use Rattle.words.specs.Calls.{refuse, afterwards}
use Rattle.words_index.specs.Index.{first_loose, in_order, entry_size, index, entry_count}
use Rattle.words_index.specs.Calls.{index_answer, index_leaves}
use Rattle.words.specs.declared.Refusal.{Refusal}
use Rattle.row_cells.specs.Listing.{Listing}
use Rattle.row_cells.proofs.Adding.{room_fits}
use Rattle.call_blocks.proofs.Indexing.{indexing_counted}

-- the contract of `index`: what it answers, and what it leaves in the slice
abbrev pub Says : List ℕ → List ℕ → Result ℕ Refusal → List ℕ → Type 0
Says l s a s' = (counted_says a ≡ index_answer l s) × (s' ≡ index_leaves l s)

module _ (l s : List ℕ) where
  pub loose_said : in_order l ≡ false → Says l s (Err (Refusal.OutOfPlace (first_loose l))) s
  unfolding says refused_says index_answer index_leaves afterwards refuse refusal
  loose_said f = (rw f, rw f)

  module _ (t : in_order l ≡ true) (r : ℕ) (e : r ≡ entry_count l) where
    pub full_said : rows entry_size s < r → Says l s (Err (Refusal.IndexFull r)) s
    unfolding says refused_says index_answer index_leaves afterwards refuse refusal
    full_said b = let g = lt-ltb (rows entry_size s) (entry_count l) (omega (arith, b, e)) in (rw (t, e, g), rw (t, g))

    pub entries_said : r ≤ rows entry_size s → (m : ℕ) (s' : List ℕ) → Listing entry_size s (index l) m s' → Says l s (Ok m) s'
    unfolding says refused_says index_answer index_leaves afterwards refuse success
    entries_said b m s' L =
        let q : entry_count l ≡ m = indexing_counted _ _ _ _ L in
        let g = le-ltb (rows entry_size s) m (omega (arith, b, q, e)) in
        (rw (t, q, g), rw (t, q, g) (L.front (omega (arith, L.count, room_fits entry_size s m (omega (arith, b, q, e))))))
