-- `bench_links::link` meets its contract: the positions from the last down to i are linked. Assumes nothing.
use Prim.Native.Nat.{◌≤◌}
use lib.ListN.{length}
use Rattle.bench_links.proofs.Pass.{Linking}
use Rattle.bench_links.proofs.link.Given as goal

abbrev pub invariant-loop-i : goal.invariant-loop-i
invariant-loop-i l = (length l.table ≤ 1000) × Linking l.table l.head l.after l.i
