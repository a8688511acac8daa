-- Numbers stored one after another into a slice.
use Rattle.std.specs.Prelude.{ℕ, List}
use Rattle.std.proofs.lemmas.List.Edits.{sets}

-- a slice with the numbers v stored from index i on
unfoldable pub stored : {X : Type 0} → List X → ℕ → List X → List X
stored l i v = sets l i v
