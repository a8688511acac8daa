-- The links without one position: e is the distance to it, and d the one from it, 0 for none.
use Rattle.std.specs.Prelude.{ℕ, ◌+◌, cond, List, ltb}
use Rattle.words.specs.Reads.{at}
use Rattle.slots.specs.Slots.{put, put_some}

-- the distance over a position that is taken out: e before it, d after it
unfoldable pub joined : ℕ → ℕ → ℕ
joined e d = cond (ltb 0 d) (e + d) 0

-- the distances without position i in its old group
unfoldable pub bridged : List ℕ → List ℕ → ℕ → List ℕ
bridged dist prev i = put_some dist (at prev i) (joined (at dist (at prev i)) (at dist i))

-- v stored at place i + d, if d is a distance
unfoldable pub put_ahead : List ℕ → ℕ → ℕ → ℕ → List ℕ
put_ahead a i d v = cond (ltb 0 d) (put a (i + d) v) a
