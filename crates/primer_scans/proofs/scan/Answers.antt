-- `primer_scans::scan` meets its contract. The loop's invariant: the fronts and the places up to position j. Assumes nothing.
use native.Mathlib.Omega.{arith}
use Rattle.bits.proofs.Having.{has_one, has_not_one}
use Rattle.primer_scans.proofs.Scanned.{scanned_start, scanned_end, scanned_place, scanned_none, place_inside}
use Rattle.primer_scans.proofs.scan.Goals.{then-whole, else-whole}
use Rattle.primer_scans.proofs.scan.Goals as goal

pub loop-j-init : goal.loop-j-init
loop-j-init c = scanned_start _ _ _ c.requires.1

pub overflow_sub-i : goal.overflow_sub-i
overflow_sub-i c =
    omega (arith, place_inside _ _ _ c.requires.1 _ _ _ _ c.loop-j.invariant c.loop-j-test.true _ c.letting-all.ensures _ c.set_in.ensures.1 c.set_in.ensures.0 (has_one _ _ c.if-whole.true))

pub loop-j-preserved : goal.loop-j-preserved
loop-j-preserved c =
    let S = c.loop-j.invariant in
    let A = c.letting-all.ensures in
    let s = c.set_in.ensures in
    elim c.if-whole.branch [
      | then-whole w ↦ rw (w.out-is, w.count-is) (scanned_place _ _ _ c.requires.1 _ _ _ _ S c.loop-j-test.true _ A _ s.1 s.0 (has_one _ _ w.if-whole.true) _ w.add.ensures)
      | else-whole w ↦ rw (w.out-is, w.count-is) (scanned_none _ _ _ c.requires.1 _ _ _ _ S c.loop-j-test.true _ A _ s.1 s.0 (has_not_one _ _ w.if-whole.false))
    ]

pub returns : goal.returns
returns c = scanned_end _ _ _ c.requires.1 _ _ _ _ c.loop-j.invariant c.loop-j-test.false
