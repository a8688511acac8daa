-- `step8_groups::rename` meets its contract. The loop's invariant, for each table that it may be asked of: the group's positions up to j hold h, and d
-- is the distance ahead. The measure is what is left of 1000. Assumes nothing.
use Prim.Native.Nat.{◌+◌, ◌≤◌}
use mathlib.Core.Path.{refl}
use native.Mathlib.Omega.{arith}
use Rattle.step1_rows.specs.Rows.{NAME, DIST}
use Rattle.step1_rows.proofs.Laws.{row_other}
use Rattle.step8_groups.proofs.Sweeps.{sweep_begins, sweep_inside, sweep_goes_on, sweep_ends}
use Rattle.step8_groups.proofs.rename.Goals.{In-loop-d}
use Rattle.step8_groups.proofs.rename.Goals as goal

-- the walk stays within the array
walk_inside : (c : In-loop-d) → (1 ≤ c.loop-d.j + c.loop-d.d) × (c.loop-d.j + c.loop-d.d ≤ 1000)
walk_inside c =
    let W = c.requires.1 in
    (omega (arith, c.loop-d-test.true), sweep_inside _ _ _ _ _ c.loop-d.invariant W.0 (rw (c.store_wide.ensures, row_other _ NAME _ _ DIST refl) W.1))

pub loop-d-init : goal.loop-d-init
loop-d-init c =
    rw (c.store_wide.ensures, c.load_wide-d.ensures) (sweep_begins _ _ _ c.wide-j.ensures c.requires.0)

pub overflow_add-j : goal.overflow_add-j
overflow_add-j c = omega (arith, walk_inside (goal.at.overflow_add-j c).In-loop-d, c.loop-d-test.true)

pub store_wide-requires-in-loop-d : goal.store_wide-requires-in-loop-d
store_wide-requires-in-loop-d c = omega (arith, walk_inside (goal.at.store_wide-requires-in-loop-d c).In-loop-d, c.loop-d-test.true)

pub load_wide-d-requires-in-loop-d : goal.load_wide-d-requires-in-loop-d
load_wide-d-requires-in-loop-d c = omega (arith, walk_inside (goal.at.load_wide-d-requires-in-loop-d c).In-loop-d, c.loop-d-test.true)

pub loop-d-smaller : goal.loop-d-smaller
loop-d-smaller c = omega (arith, walk_inside (goal.at.loop-d-smaller c).In-loop-d, c.loop-d-test.true)

pub loop-d-preserved : goal.loop-d-preserved
loop-d-preserved c =
    rw (c.load_wide-d-in-loop-d.ensures, c.store_wide-in-loop-d.ensures) (sweep_goes_on _ _ _ _ _ c.loop-d.invariant c.loop-d-test.true)

pub returns : goal.returns
returns c =
    sweep_ends _ _ _ c.wide-j.ensures c.requires.0 _ _ _ (rw c.store_wide.ensures at c.loop-d.invariant) (omega (arith, c.loop-d-test.false))
