-- Document 02, item 7, "exactly one leading repeat, as document 01 words it, has that motif and lies wholly between them": of a read x and a motif m, between the positions
-- lo, the first behind the left primer, and hi, the first of the right one.
use Rattle.std.specs.Prelude.{ℕ, ◌+◌, ◌-◌, ◌*◌, Bool, ◌&&◌, List, length, take, drop, leb}
use Rattle.words.specs.Range.{passing}
use Rattle.words.specs.Reads.{same}
use Rattle.words.specs.Repeats.{repeats, leads, copies}

-- the p bytes from position i are the motif m
unfoldable pub has_motif : List ℕ → List ℕ → ℕ → ℕ → Bool
has_motif x m i p = same (take p (drop (i - 1) x)) m

-- (i, p, e) lies wholly between: it starts behind the left primer, and its last byte, i + p·e - 1, stands before the right one
unfoldable pub between : ℕ → ℕ → ℕ → ℕ → ℕ → Bool
between lo hi i p e = leb lo i && leb (i + p * e) hi

-- (i, p, e) is a leading repeat, has the motif and lies wholly between
unfoldable pub fits : List ℕ → List ℕ → ℕ → ℕ → ℕ → ℕ → ℕ → Bool
fits x m lo hi i p e = repeats x i p e && leads x i p && has_motif x m i p && between lo hi i p e

-- such a repeat starts at i; its period is the motif's length, and its copies are those that stand there
unfoldable pub fitting : List ℕ → List ℕ → ℕ → ℕ → ℕ → Bool
fitting x m lo hi i = fits x m lo hi i (length m) (copies x i (length m))

-- all positions at which one starts, ascending
unfoldable pub fittings : List ℕ → List ℕ → ℕ → ℕ → List ℕ
fittings x m lo hi = passing (fitting x m lo hi) (length x) 1
