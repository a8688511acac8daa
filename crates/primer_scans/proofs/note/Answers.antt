-- `primer_scans::note` meets its contract. The loop's invariant: the sets so far are noted. Assumes nothing.
use Prim.Native.Nat.{◌<◌}
use mathlib.Core.Path.{sym, ◌∙◌}
use native.Mathlib.Omega.{arith}
use Rattle.primer_scans.proofs.Words.{noted_yes, noted_no}
use Rattle.primer_scans.proofs.note.Goals.{else-matches, then-matches}
use Rattle.primer_scans.proofs.note.Goals as goal

pub loop-set-preserved : goal.loop-set-preserved
loop-set-preserved c =
    let low : c.loop-set.set < 16 = omega arith in
    let N = c.loop-set.invariant in
    elim c.if-matches.branch [ then-matches w ↦ rw w.all-is (noted_yes _ _ _ _ _ N low c.requires.2 (sym c.matches.ensures ∙ w.if-matches.true)) | else-matches w ↦ rw w.all-is (noted_no _ _ _ _ _ N low (sym c.matches.ensures ∙ w.if-matches.false)) ]
