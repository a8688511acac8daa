-- `step9_parts::part_all` meets its contract. The loop's invariant: the first q parts had their turn. Assumes nothing.
use Rattle.step9_parts.specs.Parts.{Turning}
use Rattle.step9_parts.proofs.part_all.Given as goal

abbrev pub invariant-loop-q : goal.invariant-loop-q
invariant-loop-q l = Turning l.n l.h l.q l.initial.a l.a l.small.words
