-- `call_renames::name_movers`: the loop's invariant. The positions of the block's entries before q have their names. Assumes nothing.
use Prim.Native.Nat.{ℕ}
use mathlib.Core.List.{List}
use Rattle.call_renames.specs.Split.{Stayed, Moved}
use Rattle.call_renames.proofs.name_movers.Given as goal

abbrev pub invariant-loop-q : goal.invariant-loop-q
invariant-loop-q l =
    (t : List ℕ) → Stayed l.n t l.mark l.n l.initial.name l.initial.lead → Moved l.n t l.mark l.log l.from l.q l.to l.name l.lead l.part
