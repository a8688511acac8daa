-- `text_groups::count_alone` meets its contract: after i turns those alone among the first i positions are counted. Assumes nothing.
use Prim.Native.Nat.{◌≤◌}
use mathlib.Core.Path.{◌≡◌}
use Rattle.words.specs.Range.{count}
use Rattle.text_groups.specs.Groups.{alone}
use Rattle.text_groups.proofs.count_alone.Given as goal

abbrev pub invariant-loop-i : goal.invariant-loop-i
invariant-loop-i l = (l.k ≤ l.i) × (l.k ≡ count (alone l.links.table.now) l.i 1)
