-- What is printed for a read x at the bench.
use Rattle.std.specs.Prelude.{true, cond, List, ◌++◌, ℕ, length, eqb}
use Rattle.words.specs.Range.{gather}
use Rattle.words.specs.Answers.{Answer}
use Rattle.text_answers.specs.Texts.{refused_text}
use Rattle.text_hears.specs.Heard.{heard}
use Rattle.text_views.specs.Views.{head_text, verdict_text, accord_text}
use Rattle.bench_widths.specs.Views.{width_view, widths_of}

-- the whole view: the first line, width by width, and the last two, which say that list and groups agree, and repeats and runs
unfoldable pub read_view : List ℕ → List ℕ
read_view x = head_text x ++ gather (width_view x) (widths_of (length x)) 1 ++ verdict_text 0 ++ accord_text true

-- what is printed for a read, by what its list call answered: the view, or the refusal
unfoldable pub view_text : Answer → List ℕ → List ℕ
view_text a x = cond (eqb a.number 0) (read_view x) (refused_text a.number a.values)

-- what is printed for a line x, whose list has room for 10,000 lines
unfoldable pub viewed : List ℕ → List ℕ
viewed x = view_text (heard 10000 x) x
