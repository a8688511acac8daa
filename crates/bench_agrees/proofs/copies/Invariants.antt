-- `bench_agrees::copies` meets its contract: the places passed are starts, each with the next one in the table. Assumes nothing.
use Prim.Native.Nat.{◌≤◌, ◌+◌, ◌*◌}
use mathlib.Core.Path.{◌≡◌}
use lib.ListN.{length}
use Rattle.words.proofs.Searches.{Missed}
use Rattle.bench_agrees.proofs.Gaps.{stops}
use Rattle.bench_agrees.proofs.copies.Given as goal

abbrev pub invariant-loop-k : goal.invariant-loop-k
invariant-loop-k l = (l.j ≤ length l.links.table.now) × (l.j ≡ l.i + l.p * l.k) × Missed (stops l.links.table.now l.p l.i) 0 l.k
