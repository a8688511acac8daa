-- `primer_scans::scan` meets its contract. The loop's invariant: the fronts and the places up to position j. Assumes nothing.
use Rattle.primer_scans.proofs.Scanned.{Scanned}
use Rattle.primer_scans.proofs.scan.Given as goal

abbrev pub invariant-loop-j : goal.invariant-loop-j
invariant-loop-j l = Scanned l.read l.primer l.initial.out l.j l.fronts l.count l.out
