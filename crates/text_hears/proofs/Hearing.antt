-- The list call hears a line: over the limit it is refused, any other is handed over whole. After a success the front of the slice is the list of the line.
-- Assumes nothing.
use Prim.Native.Nat.{ℕ, ◌^◌, ◌≤◌, ◌<◌}
use mathlib.Core.Path.{◌≡◌, refl, sym, ap, ◌∙◌}
use mathlib.Core.Logic.{◌⊎◌, inl, inr}
use mathlib.Core.List.{List}
use native.Mathlib.Omega.{arith}
use lib.ListN.{length, take}
use lib.Seq.{length-take-le}
use borrow.Author.Tests.{lt-ltb, le-ltb}
use Rattle.words.specs.Reads.{most}
use Rattle.words.specs.Rows.{rows}
use Rattle.words.specs.Lists.{line_size, lines, line_count, in_mode}
use Rattle.words.specs.Logs.{within}
use Rattle.words.specs.Answers.{Answer, success, refusal}
use Rattle.words.specs.Calls.{refuse, too_long, afterwards, list_afterwards, list_answer, list_leaves}
use Rattle.words.proofs.Tests.{lt_or_ge}
use Rattle.words.proofs.Afterwards.{front}
use Rattle.text_lines.specs.Lines.{Keeps}
use Rattle.text_lines.proofs.Keeping.{keeps_whole, keeps_self}
use Rattle.text_hears.specs.Heard.{Hears}
use Rattle.text_hears.proofs.Heard.{heard-long, heard_short}

module _ (line : List ℕ) (len : ℕ) (list : List ℕ) where
  pub hears_long : most < len → Hears line len list (refusal 1 len) list
  unfolding refusal list_afterwards afterwards
  hears_long h = record { few = λ z. absurd (omega (arith, z)); says = λ x k. sym (heard-long (rows line_size list) x k h); leaves = λ x k. refl }

  pub hears_list : len ≤ most → len < length line → length line < 2 ^ 64 → {a : Answer} {made : List ℕ} →
      a ≡ list_answer (take len line) 0 list → made ≡ list_leaves (take len line) 0 list → Hears line len list a made
  unfolding list_leaves
  hears_list l h m {a} {made} e f =
      record {
        few = λ z. l;
        says = λ x k. e ∙ ap (λ (v : List ℕ). list_answer v 0 list) (sym (keeps_whole k h m)) ∙ sym (heard_short (rows line_size list) x k l list refl);
        leaves = λ x k.
            f ∙ ap (λ (v : Answer). list_afterwards v (lines (take len line) (in_mode (take len line) 0)) list) (sym e)
            ∙ ap (λ (v : List ℕ). list_afterwards a (lines v (in_mode v 0)) list) (sym (keeps_whole k h m));
      }

-- what a success says and leaves, of the line as it is kept
module _ {line : List ℕ} {len : ℕ} {list : List ℕ} {a : Answer} {made : List ℕ} (long : most < length line) (m : length line < 2 ^ 64)
    (H : Hears line len list a made) (z : a.number ≡ 0) where
  abbrev x : List ℕ
  x = take len line

  abbrev count : ℕ
  count = line_count x (in_mode x 0)

  kept : Keeps x len line
  kept = keeps_self (omega (arith, H.few z)) m

  answered : a ≡ list_answer x 0 list
  answered = H.says x kept ∙ heard_short (rows line_size list) x kept (H.few z) list refl

  short : length x ≤ most
  short = omega (arith, H.few z, length-take-le len line (omega (arith, H.few z)))

  pub done : (a ≡ success count) × (count ≤ rows line_size list) × (made ≡ front (lines x (in_mode x 0)) list)
  unfolding list_answer list_afterwards afterwards refuse too_long success refusal within
  done = go (lt_or_ge (rows line_size list) count)
    where
      go : (rows line_size list < count) ⊎ (count ≤ rows line_size list) → (a ≡ success count) × (count ≤ rows line_size list) × (made ≡ front (lines x (in_mode x 0)) list)
      go (inl l) =
          let e : a ≡ refusal 3 count = answered ∙ rw (le-ltb most (length x) short, lt-ltb (rows line_size list) count l) in
          absurd (omega (arith, z, ap (λ (v : Answer). v.number) e))
      go (inr l) =
          let e : a ≡ success count = answered ∙ rw (le-ltb most (length x) short, le-ltb (rows line_size list) count l) in
          (e, l, H.leaves x kept ∙ rw e)
