-- `call_judges::first_bad`: the loop's invariant. The first k entries are good, and their positions are seen. Assumes nothing.
use mathlib.Core.Path.{◌≡◌}
use Rattle.words.specs.Rows.{rows}
use Rattle.words.specs.Moves.{move_size}
use Rattle.call_judges.specs.Judge.{Seen}
use Rattle.call_judges.proofs.first_bad.Given as goal

abbrev pub invariant-loop-k : goal.invariant-loop-k
invariant-loop-k l = (l.whole ≡ rows move_size l.log) × Seen l.n l.log l.k l.seen
