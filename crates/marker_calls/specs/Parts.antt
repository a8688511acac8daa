-- The motif shown as numbers side by side: 1 for a part of the house list or 0 for one of the read, its place there, and how many bytes of the motif m it has.
use Rattle.std.specs.Prelude.{ℕ, List, Option}
use Rattle.words.specs.Range.{bit}
use Rattle.words_markers.specs.Calls.{of_house, from_of, count_of}
use Rattle.words_markers.specs.declared.Shown.{Shown}
use Rattle.marker_calls.specs.declared.ShownPart.{ShownPart}

unfoldable pub shown_part : List ℕ → Option Shown → ShownPart
shown_part m s = record { house = bit (of_house s); from = from_of s; count = count_of m s }
