-- `start_lines::walk` meets its contract. The loop's invariant: of the chain, e - 1 starts are passed, and it goes on at j; the measure is what is left
-- of the array. Assumes nothing.
use Prim.Native.Nat.{◌+◌, ◌-◌, ◌≤◌}
use mathlib.Core.Path.{◌≡◌}
use Rattle.start_lines.specs.Lines.{chain}
use Rattle.start_lines.proofs.walk.Given as goal

abbrev pub invariant-loop-e : goal.invariant-loop-e
invariant-loop-e l = (1 ≤ l.j) × (l.j ≤ 1000) × (l.e ≤ l.j) × (chain l.dist l.p l.i + 1 ≡ l.e + chain l.dist l.p l.j)

abbrev pub decreases-loop-e : goal.decreases-loop-e
decreases-loop-e l = 1000 - l.j
