-- Document 02, item 1, over the contracts of the calls: the index is built with the list or afterwards from the list alone, and both agree. Assumes nothing.
use Prim.Native.Nat.{ℕ, ◌*◌, ◌≤◌, ◌<◌}
use mathlib.Core.Path.{◌≡◌, refl, sym, ap, ◌∙◌}
use mathlib.Core.Logic.{◌⊎◌, inl, inr, ◌≢◌}
use mathlib.Core.List.{List}
use native.Mathlib.Omega.{arith}
use lib.ListN.{length, get_or, take, drop}
use lib.Seq.{take_at}
use borrow.Author.Tests.{lt-ltb, le-ltb}
use Rattle.words.specs.Rows.{rows}
use Rattle.words.specs.Reads.{most}
use Rattle.words.specs.Lists.{line_size, lines, line_count, in_mode}
use Rattle.words.specs.Answers.{Answer, success, both, refusal, counted_says}
use Rattle.words.specs.Calls.{refuse, afterwards}
use Rattle.words.proofs.Tests.{lt_or_ge}
use Rattle.words.proofs.Lists.{lines_full}
use Rattle.words_index.specs.Index.{entry_size, entry_count}
use Rattle.words_index.specs.Calls.{index_answer, index_leaves, list_index_answer, list_index_beside, list_indexed_says}
use Rattle.words_index.proofs.OfList.{lines_in_order}
use Rattle.call_lists.proofs.list.Reads as list-call
use Rattle.call_list_indexes.proofs.list_index.Reads as both-call
use Rattle.call_indexes.proofs.index.Reads as index-call
use Rattle.lister.proofs.Answered.{list_by, short_goes, both-goes}

-- the two answers go the same way, and leave the same index
record Alike (x : List ℕ) (mode : ℕ) (out s : List ℕ) : Type 0 where
  number : (index_answer (lines x (in_mode x mode)) s).number ≡ (list_index_answer x mode out s).number
  loose : (index_answer (lines x (in_mode x mode)) s).number ≢ 6
  made : index_leaves (lines x (in_mode x mode)) s ≡ list_index_beside x mode out s

alike : (x : List ℕ) (mode : ℕ) (out s : List ℕ) → length x ≤ most → mode ≤ 1 → line_count x (in_mode x mode) ≤ rows line_size out → Alike x mode out s
unfolding index_answer index_leaves list_index_beside afterwards refuse success both refusal
alike x mode out s h m l = go (lt_or_ge (rows entry_size s) (entry_count (lines x (in_mode x mode))))
  where
    go : (rows entry_size s < entry_count (lines x (in_mode x mode))) ⊎ (entry_count (lines x (in_mode x mode)) ≤ rows entry_size s) → Alike x mode out s
    go (inl b) =
        let o = lines_in_order x (in_mode x mode) in
        let t = lt-ltb (rows entry_size s) (entry_count (lines x (in_mode x mode))) b in
        let e = short_goes x mode out s h m l b in
        record { number = rw (e, o, t) refl; loose = rw (o, t) (λ z. omega (arith, z)); made = rw (e, o, t) refl }
    go (inr b) =
        let o = lines_in_order x (in_mode x mode) in
        let t = le-ltb (rows entry_size s) (entry_count (lines x (in_mode x mode))) b in
        let e = both-goes x mode out s h m l b in
        record { number = rw (e, o, t) refl; loose = rw (o, t) (λ z. omega (arith, z)); made = rw (e, o, t) refl }

-- Where `list` succeeds, `index` of the lines that it wrote never says that they are out of place; it answers by the number that `list_index` answers by on
-- the same read and slices, and leaves the same index.
pub two_ways_agree : (κs : _) (a : _) (r : _) (e : _) → list-call.Learnt κs a r e → (counted_says r).number ≡ 0
    → (κt : _) (b : _) (q : _) (f : _) → index-call.Learnt κt b q f → b.0.now ≡ take (line_size * get_or (counted_says r).values 0 0) e.1.1.0.now
    → (κu : _) (c : _) (s : _) (g : _) → both-call.Learnt κu c s g → c.0.now ≡ a.0.now → c.1.0 ≡ a.1.0 → c.1.1.0.now ≡ a.1.1.0.now → c.1.1.1.0.now ≡ b.1.0.now
    → ((counted_says q).number ≢ 6) × ((counted_says q).number ≡ (list_indexed_says s).number) × (f.1.0.now ≡ g.1.1.1.0.now)
unfolding success refusal line_count
two_ways_agree κs a r e L ok κt b q f I el κu c s g B ex em eo ei =
    let x = a.0.now in
    let mode = a.1.0 in
    let out = a.1.1.0.now in
    let by = list_by x mode out in
    let w = (by.exactly 0).0 (ap (λ (v : Answer). v.number) (sym L.0) ∙ ok) in
    let G = by.gives 0 w in
    let k : get_or (counted_says r).values 0 0 ≡ line_count x (in_mode x mode) = ap (λ (v : Answer). get_or v.values 0 0) (L.0 ∙ G.0) in
    let made : b.0.now ≡ lines x (in_mode x mode) =
    el ∙ ap (λ (v : ℕ). take (line_size * v) e.1.1.0.now) k
    ∙ ap (take (line_size * line_count x (in_mode x mode))) (L.1 ∙ G.1)
    ∙ take_at (lines x (in_mode x mode)) (drop (length (lines x (in_mode x mode))) out) (line_size * line_count x (in_mode x mode)) (lines_full x (in_mode x mode)) in
    let A = alike x mode out b.1.0.now w.0 w.1 w.2 in
    let i = rw made at I in
    let j = rw (ex, em, eo, ei) at B in
    (rw i.0 A.loose, rw (i.0, j.0) A.number, i.1 ∙ A.made ∙ sym j.2)
