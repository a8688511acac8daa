-- Words as the bytes that are printed.
use Rattle.std.specs.Prelude.{ℕ, List, [] as none, ◌∷◌ as ◌then◌}
use Prim.Native.Char.{code}
use Prim.Native.String.{String, [], ◌∷◌}

-- the ASCII codes of a word
unfoldable pub ascii : String → List ℕ
ascii [] = none
ascii (c ∷ s) = code c then ascii s
