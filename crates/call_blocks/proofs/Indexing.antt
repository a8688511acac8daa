-- From block to block: the entries of the periods before the next block are written. Assumes nothing.
use Prim.Native.Nat.{ℕ, ◌+◌, ◌-◌, ◌*◌, ◌≤◌, ◌<◌}
use mathlib.Core.Path.{◌≡◌, refl, sym, ap, subst, ◌∙◌}
use mathlib.Core.List.{List, ◌++◌}
use native.Mathlib.Omega.{arith}
use lib.ListN.{length}
use Rattle.words.specs.Range.{gather}
use Rattle.words.specs.Rows.{rows}
use Rattle.words.specs.Lists.{line_size, period_of}
use Rattle.words.proofs.Rows.{rows_times}
use Rattle.row_cells.specs.Listing.{Listing, Adds}
use Rattle.words_index.specs.Index.{entry_of, entry_size, entry_if, index, entry_count}
use Rattle.words_index.proofs.EntryLayout.{entry_some}
use Rattle.words_index.proofs.Ordered.{Ordered}
use Rattle.words_index.proofs.Blocks.{bound, bound_here, entries_few, Opens, opens_next, index_start, index_block, index-end}
use Rattle.call_blocks.specs.Block.{Blocks}

-- the entries of the periods below the block that begins at k
abbrev pub below : List ℕ → ℕ → List ℕ
below l k = gather (entry_if l) (bound l k) 0

-- there are no more of them than the period of line k says
pub below_few : (l : List ℕ) (k m p : ℕ) → k < rows line_size l → p ≡ period_of l k → length (below l k) ≡ entry_size * m → m ≤ p
below_few l k m p b e c = omega (arith, e, bound_here l k b, entries_few l k m c)

module _ (l : List ℕ) (O : Ordered l) where
  pub indexing_none : (out : List ℕ) → Listing entry_size out (below l 0) 0 out
  indexing_none out = subst (λ (v : List ℕ). Listing entry_size out v 0 out) (sym (index_start l O)) (record { same = refl; count = omega arith; front = λ h. refl })

  module _ (k j most : ℕ) (o : Opens l k) (B : Blocks l k j most) where
    pub opens_on : Opens l j
    opens_on = opens_next l O k j o B.some B.high B.same B.other

    pub indexing_more : (m p : ℕ) (old out out' : List ℕ) → p ≡ period_of l k → Listing entry_size old (below l k) m out → Adds entry_size m (m + 1) (entry_of p k (j - k) most) out out' →
        Listing entry_size old (below l j) (m + 1) out'
    indexing_more m p old out out' e L A =
        subst (λ (v : List ℕ). Listing entry_size old v (m + 1) out')
        (ap (λ (v : ℕ). below l k ++ entry_of v k (j - k) most) e ∙ ap (λ (v : ℕ). below l k ++ entry_of (period_of l k) k (j - k) v) B.most_is ∙ sym (index_block l O k j o B.some B.high B.same B.other))
        (A old (below l k) L)

  pub indexing_whole : (k m : ℕ) (old out : List ℕ) → rows line_size l ≤ k → Listing entry_size old (below l k) m out → Listing entry_size old (index l) m out
  indexing_whole k m old out b L = subst (λ (v : List ℕ). Listing entry_size old v m out) (index-end l O k b) L

-- however much of it was written, the entries are as many as the index has
pub indexing_counted : (l old out : List ℕ) (r : ℕ) → Listing entry_size old (index l) r out → entry_count l ≡ r
unfolding entry_count
indexing_counted l old out r L = rows_times entry_size (index l) r entry_some L.count
