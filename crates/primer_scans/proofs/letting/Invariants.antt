-- `primer_scans::letting` meets its contract. The loop's invariant: each set has the letters, of the first k, that let it in. Assumes nothing.
use Rattle.primer_scans.specs.Fronts.{AllLet}
use Rattle.primer_scans.proofs.letting.Given as goal

abbrev pub invariant-loop-k : goal.invariant-loop-k
invariant-loop-k l = AllLet l.primer l.k l.all
