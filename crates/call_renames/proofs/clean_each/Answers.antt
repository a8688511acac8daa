-- `call_renames::clean_each` meets its contract: an entry has no mark and no leader after its turn. Assumes nothing.
use Rattle.call_renames.proofs.Cleaning.{left_step}
use Rattle.call_renames.proofs.clean_each.Goals as goal

pub loop-q-preserved : goal.loop-q-preserved
loop-q-preserved c = let e = c.clean_one.ensures in left_step _ _ _ _ _ _ _ c.loop-q.invariant c.loop-q-test.true _ c.place_of.ensures _ _ e.0 e.1
