-- Document 01's example of the printing program's output, whole, and a refusal, by computation. Assumes nothing.
use Prim.Native.Nat.{ℕ}
use mathlib.Core.Path.{◌≡◌, refl}
use mathlib.Core.List.{List, [], ◌∷◌}
use Rattle.words.specs.Range.{first, gather}
use Rattle.words.specs.Rows.{row}
use Rattle.words.specs.Lists.{line_size}
use Rattle.words.specs.Answers.{success, refusal}
use Rattle.text_puts.specs.Ascii.{ascii}
use Rattle.text_puts.specs.Numbers.{holds, places, decimal, number_text, ending, cell_text, numbers_text}
use Rattle.text_answers.specs.Texts.{line_text, lines_text, list_text, refused_text, line_total, answer_text}

-- the list slice after the list of `ACAACACA`
abbrev made : List ℕ
made = 3 ∷ 1 ∷ 2 ∷ 4 ∷ 2 ∷ 2 ∷ 5 ∷ 2 ∷ 2 ∷ 1 ∷ 3 ∷ 2 ∷ 0 ∷ 0 ∷ 0 ∷ []

pub record Shown : Type 0 where
  pub example : answer_text (success 4) 8 made ≡ ascii "read 8 repeats 4\n3 1 2\n4 2 2\n5 2 2\n1 3 2\n"
  pub none : answer_text (success 0) 0 [] ≡ ascii "read 0 repeats 0\n"
  pub refused : answer_text (refusal 1 70010) 70010 [] ≡ ascii "refused 1 70010\n"

pub shown : Shown
unfolding first gather row line_size success refusal ascii holds places decimal number_text ending cell_text numbers_text
    line_text lines_text list_text refused_text line_total answer_text
shown = record { example = refl; none = refl; refused = refl }
