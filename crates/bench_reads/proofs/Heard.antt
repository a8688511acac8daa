-- What was heard of a line: on success the front of the slice is the list of its read, whole, and what is shown goes by the answer. Assumes nothing.
use Prim.Native.Nat.{ℕ, ◌*◌, ◌^◌, ◌≤◌, ◌<◌}
use mathlib.Core.Path.{◌≡◌, refl, sym, ap, ◌∙◌}
use mathlib.Core.Logic.{◌≢◌}
use mathlib.Core.List.{List, [], ◌∷◌}
use native.Mathlib.Omega.{arith}
use lib.ListN.{length, take}
use lib.Seq.{length-take-le}
use borrow.Author.Tests.{ne_eqb, eqb-false}
use Rattle.std.specs.Prelude.{Result, Ok, Err}
use Rattle.words.specs.Rows.{rows}
use Rattle.words.specs.Reads.{most}
use Rattle.words.specs.Lists.{line_size, lines, line_count, in_mode}
use Rattle.words.specs.declared.Refusal.{Refusal}
use Rattle.words.specs.Answers.{Answer, success, refused_says, says, counted_says}
use Rattle.words.proofs.Said.{refused-some}
use Rattle.words.proofs.Rows.{rows_times}
use Rattle.words.proofs.LineLayout.{line-some}
use Rattle.words.proofs.Lists.{lines_full}
use Rattle.words.proofs.Afterwards.{front}
use Rattle.call_answers.specs.declared.Answer.{Answer as Plain}
use Rattle.call_answers.specs.Plain.{plain}
use Rattle.call_answers.proofs.One.{counted_one}
use Rattle.text_answers.specs.Texts.{refused_text}
use Rattle.text_lines.specs.Lines.{Keeps}
use Rattle.text_lines.proofs.Keeping.{keeps_whole}
use Rattle.text_outs.specs.declared.Out.{Out}
use Rattle.text_hears.specs.Heard.{heard, Hears}
use Rattle.text_hears.proofs.Hearing.{done}
use Rattle.bench_shows.specs.Collecting.{Collects}
use Rattle.bench_reads.specs.Views.{read_view, view_text, viewed}
use Rattle.bench_reads.specs.Steps.{Viewed}
use Rattle.bench_reads.proofs.Made.{made_whole}

-- an answer of the list call is its number and its one value: of a list, the number of its lines
pub count_told : (f : Result ℕ Refusal) (n : ℕ) → f ≡ Ok n → counted_says f ≡ record { number = 0; values = n ∷ [] }
unfolding says success
count_told f n e = rw e refl

-- .. and of a refusal, what it returns
pub why_told : (f : Result ℕ Refusal) (why : Refusal) {a : Plain} → f ≡ Err why → a ≡ plain (refused_says why) → counted_says f ≡ record { number = a.number; values = a.value ∷ [] }
unfolding says plain
why_told f why e q = rw (e, q) (ap (λ (v : List ℕ). record { number = (refused_says why).number; values = v }) (counted_one (Err why)))

pub why-some : (why : Refusal) {a : Plain} → a ≡ plain (refused_says why) → a.number ≢ 0
unfolding plain
why-some why q z = eqb-false (refused_says why).number 0 (refused-some why) (sym (ap (λ (b : Plain). b.number) q) ∙ z)

module _ {line : List ℕ} {len : ℕ} {list : List ℕ} {a : Answer} {made : List ℕ} (H : Hears line len list a made) {n v : ℕ}
    (told : a ≡ record { number = n; values = v ∷ [] }) where
  number_is : a.number ≡ n
  number_is = ap (λ (b : Answer). b.number) told

  -- what is shown goes by that answer, whose slice has room for 10,000 lines
  module _ (room : length list ≡ line_size * 10000) where
    heard_is : (x : List ℕ) → Keeps x len line → heard 10000 x ≡ a
    heard_is x k = ap (λ (r : ℕ). heard r x) (sym (rows_times line_size list 10000 line-some room)) ∙ sym (H.says x k)

    view_read : n ≡ 0 → (x : List ℕ) → Keeps x len line → viewed x ≡ read_view x
    unfolding viewed view_text
    view_read z x k = rw (heard_is x k, number_is, z)

    view-refused : n ≢ 0 → (x : List ℕ) → Keeps x len line → viewed x ≡ refused_text n (v ∷ [])
    unfolding viewed view_text
    view-refused ne x k = rw (heard_is x k, told, ne_eqb n 0 ne)

    module _ {buf : List ℕ} {o : Out} {after : List ℕ} {r : Out} where
      pub viewed-refused : n ≢ 0 → Collects buf o (refused_text n (v ∷ [])) after r → Viewed line len buf o after r
      viewed-refused ne c = record { same = c.same; inside = c.inside; text = λ x k. rw (view-refused ne x k) c }

      pub viewed_read : n ≡ 0 → most < length line → length line < 2 ^ 64 → Collects buf o (read_view (take len line)) after r → Viewed line len buf o after r
      viewed_read z long m c =
          record {
            same = c.same;
            inside = c.inside;
            text = λ x k.
                let s : x ≡ take len line = keeps_whole k (omega (arith, H.few (number_is ∙ z))) m in
                rw (view_read z x k, s) c;
          }

  module _ (long : most < length line) (m : length line < 2 ^ 64) (z : n ≡ 0) where
    abbrev x : List ℕ
    x = take len line

    pub line_few : len ≤ most
    line_few = H.few (number_is ∙ z)

    pub list_few : length x ≤ most
    list_few = omega (arith, line_few, length-take-le len line (omega (arith, line_few)))

    value_is : v ≡ (plain a).value
    unfolding plain
    value_is = sym (ap (λ (b : Answer). (plain b).value) told)

    listed-done : (a ≡ success (rows line_size (lines x (in_mode x 0)))) × (line_count x (in_mode x 0) ≤ rows line_size list) × (made ≡ front (lines x (in_mode x 0)) list)
    unfolding line_count
    listed-done = done long m H (number_is ∙ z)

    pub list_whole : (take (line_size * v) made ≡ lines x (in_mode x 0)) × (line_size * v ≤ length made)
    list_whole = made_whole line_size (lines x (in_mode x 0)) list (lines_full x (in_mode x 0)) listed-done.0 listed-done.2 value_is

    -- there are no more lines than the slice has room for
    pub lines_few : length list ≡ line_size * 10000 → line_count x (in_mode x 0) ≤ 10000
    lines_few room = omega (arith, listed-done.1, rows_times line_size list 10000 line-some room)
