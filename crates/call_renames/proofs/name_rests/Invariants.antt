-- `call_renames::name_rests`: the loop's invariant. The positions before i that stay have their names. Assumes nothing.
use Prim.Native.Nat.{◌-◌}
use Rattle.slots.specs.Slots.{view}
use Rattle.call_renames.specs.Split.{Stayed}
use Rattle.call_renames.proofs.name_rests.Given as goal

abbrev pub invariant-loop-i : goal.invariant-loop-i
invariant-loop-i l = Stayed l.n (view l.n l.initial.name) l.mark (l.i - 1) l.name l.lead
