-- `text_groups::put_members` meets its contract: the members before the link are put, all of them where it is none. Assumes nothing.
use Prim.Native.Nat.{◌-◌}
use mathlib.Core.Path.{◌≡◌}
use lib.ListN.{length}
use Rattle.text_puts.specs.Puts.{Puts}
use Rattle.text_groups.proofs.Walks.{passed, passed_text, Link}
use Rattle.text_groups.proofs.put_members.Given as goal

abbrev pub invariant-loop-here : goal.invariant-loop-here
invariant-loop-here l =
    Link l.links.table.now l.s l.here × (length l.buf ≡ length l.initial.buf)
    × Puts l.initial.buf l.at (passed_text l.links.table.now l.s l.here) l.buf l.next

abbrev pub decreases-loop-here : goal.decreases-loop-here
decreases-loop-here l = length l.links.table.now - passed l.links.table.now l.here
