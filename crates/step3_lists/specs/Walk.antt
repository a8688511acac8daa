-- The places on a list, by its links.
use Rattle.std.specs.Prelude.{ℕ, zero, suc, ◌-◌, cond, List, [], ◌∷◌, ltb}
use Rattle.words.specs.Reads.{at}

-- the places that a walk from h on comes to, 0 for none, in at most f steps
unfoldable pub walk : List ℕ → ℕ → ℕ → List ℕ
walk after zero h = []
walk after (suc f) h = cond (ltb 0 h) (h ∷ walk after f (at after h - 1)) []
