-- Where a line of the house list h starts, and where that has a marker, if it does.
use Rattle.std.specs.Prelude.{ℕ, cond, List, Option, Some, None}
use Rattle.words_markers.specs.Houses.{line_start, has_line, house_has}

-- line k
unfoldable pub line_found : List ℕ → ℕ → Option ℕ
line_found h k = cond (has_line h k) (Some (line_start h k)) None

-- the marker of number k and motif m
unfoldable pub house_place : List ℕ → ℕ → List ℕ → Option ℕ
house_place h k m = cond (house_has h k m) (Some (line_start h k)) None
