-- `primer_scans::note` meets its contract. The loop's invariant: the sets so far are noted. Assumes nothing.
use Rattle.primer_scans.specs.Fronts.{Noted}
use Rattle.primer_scans.proofs.note.Given as goal

abbrev pub invariant-loop-set : goal.invariant-loop-set
invariant-loop-set l = Noted l.primer l.k l.set l.initial.all l.all
