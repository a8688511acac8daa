-- The sets of the letters A to Z, one after another; no other byte has one.
use Rattle.std.specs.Prelude.{ℕ, ◌+◌, List}
use Rattle.words.specs.Range.{cells}
use Rattle.words_primers.specs.Bases.{set_of}

unfoldable pub letter_sets : List ℕ
letter_sets = cells (λ k. set_of (65 + k)) 26 0
