-- The motif of a claim as numbers side by side.
use Rattle.std.specs.Prelude.{ℕ, List}
use Rattle.words_claims.specs.Calls.{motif_length, motif_from}
use Rattle.call_claims.specs.declared.Part.{Part}

-- where it starts in the read, counted from 0, and how many bytes it has
unfoldable pub motif_part : List ℕ → ℕ → ℕ → ℕ → Part
motif_part x i p e = record { from = motif_from x i p e; count = motif_length x i p e }
