-- Two results x and y at the arguments a, both allowed by the contract of the function as the source states it, are equal; of `index_lines` the slice
-- afterwards too, where it has room for the index. Assumes nothing.
use Prim.Native.Nat.{◌≤◌}
use mathlib.Core.Path.{◌≡◌, sym, ◌∙◌}
use lib.ListN.{length}
use Rattle.words_index.specs.Index.{index}
use Rattle.call_blocks.proofs.Indexing.{indexing_counted}
use Rattle.call_blocks.proofs.index_lines.Reads as index-lines
use Rattle.call_blocks.proofs.count_entries.Reads as count_entries

pub index_lines_settled : (κs : _) (a : _) (x y : _) (e f : _) → index-lines.Learnt κs a x e → index-lines.Learnt κs a y f →
    (x ≡ y) × (length (index a.0.now) ≤ length a.1.0.now → e.1.0.now ≡ f.1.0.now)
index_lines_settled κs a x y e f p q =
    (sym (indexing_counted _ _ _ _ p) ∙ indexing_counted _ _ _ _ q, λ h. p.front h ∙ sym (q.front h))

pub count_entries_settled : (κs : _) (a : _) (x y : _) (e f : _) → count_entries.Learnt κs a x e → count_entries.Learnt κs a y f → x ≡ y
count_entries_settled κs a x y e f p q = p ∙ sym q
