-- The moves of a queue, one after another.
use Rattle.std.specs.Prelude.{ℕ, suc, ◌≤◌, ◌<◌, List}
use Rattle.words.specs.Range.{gather}
use Rattle.words.specs.Reads.{at}
use Rattle.words.specs.Moves.{move_of}

-- the first m places of a queue hold positions that have a right neighbour
abbrev pub Inside : List ℕ → ℕ → Type 0
Inside que m = (q : ℕ) → 1 ≤ q → q ≤ m → (1 ≤ at que q) × (at que q < 1000)

-- the move at width w of the position at place q of a queue, under the name of its right neighbour
unfoldable pub move_from : ℕ → List ℕ → List ℕ → ℕ → List ℕ
move_from w name que q = move_of w (at name (suc (at que q))) (at que q)

-- the moves of the first m places
unfoldable pub moves_to : ℕ → List ℕ → List ℕ → ℕ → List ℕ
moves_to w name que m = gather (move_from w name que) m 1
