-- `pass` meets its contract. The loop's invariant: what is left of the list begins at h, and who of distance w has left it is marked. The measure is what is
-- left of the list. Assumes nothing.
use mathlib.Core.List.{[], ◌∷◌}
use lib.ListN.{length}
use Rattle.step1_rows.specs.Rows.{row, Only, HEAD, AFTER}
use Rattle.step2_bits.specs.Sets.{flags}
use Rattle.step3_lists.specs.Walk.{walk}
use Rattle.step3_lists.proofs.Passing.{Passing}
use Rattle.step3_lists.proofs.pass.Given as goal

abbrev pub invariant-loop-h : goal.invariant-loop-h
invariant-loop-h l = Only (HEAD ∷ AFTER ∷ []) l.initial.a l.a × Passing l.w l.h (flags l.initial.set.words) (flags l.set.words) l.a

abbrev pub decreases-loop-h : goal.decreases-loop-h
decreases-loop-h l = length (walk (row l.a AFTER) 1000 l.h)
