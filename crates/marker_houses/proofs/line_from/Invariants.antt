-- `marker_houses::line_from` meets its contract. The loop's invariant: line `counter` starts at the place reached. Assumes nothing.
use Rattle.std.proofs.Common.{◌≡◌, ◌≤◌, length}
use Rattle.words_markers.specs.Houses.{line_start}
use Rattle.marker_houses.proofs.line_from.Given as goal

abbrev pub invariant-loop : goal.invariant-loop
invariant-loop l = (l.at ≤ length l.house) × (l.at ≡ line_start l.house l.counter)
