-- `call_renames::name_movers` meets its contract: the position of an entry has its name after its turn. Assumes nothing.
use Rattle.call_renames.proofs.Movers.{moved_step}
use Rattle.call_renames.proofs.name_movers.Goals as goal

pub loop-q-preserved : goal.loop-q-preserved
loop-q-preserved c =
    let e = c.name_mover.ensures in
    λ t S. moved_step _ _ _ _ _ c.requires.0 _ c.loop-q.auto.q c.loop-q-test.true _ _ _ _ (c.loop-q.invariant t S) _ c.place_of.ensures _ _ _ e.0 e.1
