-- `primer_scans::letting` meets its contract. The loop's invariant: each set has the letters, of the first k, that let it in. Assumes nothing.
use Rattle.primer_scans.proofs.Words.{all_start, all_more}
use Rattle.primer_scans.proofs.letting.Goals as goal

pub loop-k-init : goal.loop-k-init
loop-k-init c = all_start _

pub loop-k-preserved : goal.loop-k-preserved
loop-k-preserved c = all_more _ _ _ _ c.loop-k.invariant (rw c.set_in.ensures.0 at c.note.ensures)
