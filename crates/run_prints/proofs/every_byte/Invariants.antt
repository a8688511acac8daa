-- `run_prints::every_byte`: the places below `k` have been written. Assumes nothing.
use Rattle.std.proofs.Common.{◌≡◌, ℕ, ◌<◌, slice_index_or, length}
use Rattle.run_prints.proofs.every_byte.Given as goal

abbrev pub invariant-loop-k : goal.invariant-loop-k
invariant-loop-k l = (length l.read ≡ 256) × ((j : ℕ) → j < l.k → slice_index_or l.read j 0 ≡ j)
