-- `text_groups::count_alone` meets its contract: after i turns those alone among the first i positions are counted. Assumes nothing.
use mathlib.Core.Path.{sym}
use native.Mathlib.Omega.{arith}
use Rattle.text_groups.specs.Groups.{alone}
use Rattle.text_groups.proofs.Counted.{count_none, count_turn}
use Rattle.text_groups.proofs.count_alone.Goals.{then-is_alone, else-is_alone}
use Rattle.text_groups.proofs.count_alone.Goals as goal

pub loop-i-init : goal.loop-i-init
loop-i-init c = (omega arith, sym (count_none _))

pub loop-i-preserved : goal.loop-i-preserved
loop-i-preserved c =
    let turn = count_turn (alone c.args.links.now.table.now) c.loop-i.i c.loop-i.k c.is_alone.result c.loop-i.invariant.1 c.is_alone.ensures in
    elim c.if-is_alone.branch [
      | then-is_alone w ↦ (omega (arith, w.k-is), omega (arith, w.k-is, rw w.if-is_alone.true at turn))
      | else-is_alone w ↦ (omega (arith, w.k-is), omega (arith, w.k-is, rw w.if-is_alone.false at turn))
    ]
