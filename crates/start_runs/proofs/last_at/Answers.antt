-- `start_runs::last_at` meets its contract. The loop's invariant: the places from i to below j have a start just after them, and j a place p after it; the
-- measure is what is left of the array. Assumes nothing.
use Prim.Native.Nat.{suc, ◌+◌}
use mathlib.Core.Path.{◌≡◌, refl, sym, ap, ◌∙◌}
use native.Mathlib.Omega.{arith}
use Rattle.words.specs.Reads.{at}
use Rattle.words.proofs.Searches.{missed_more}
use Rattle.start_runs.proofs.Rows.{ends-not, last_found}
use Rattle.start_runs.proofs.last_at.Goals as goal

pub loop-j-preserved : goal.loop-j-preserved
loop-j-preserved c =
    let L = c.loop-j in
    let N = c.requires.0 in
    let next : suc L.j ≡ L.j + 1 = omega arith in
    let s : at c.args.dist.now (L.j + 1) ≡ c.args.p = sym c.load.ensures ∙ c.loop-j-test.true in (
      omega (arith, L.invariant.0),
      N.inside (L.j + 1) (omega arith) (omega (arith, L.invariant.1, N.some)) s,
      missed_more _ _ _ _ L.invariant.2 (ends-not _ _ L.j (ap (at _) next ∙ s)) refl,
    )

pub returns : goal.returns
returns c =
    let L = c.loop-j in
    let next : suc L.j ≡ L.j + 1 = omega arith in (
      sym (last_found _ _ _ L.j L.invariant.2 L.invariant.0 (omega (arith, L.invariant.1, c.requires.1)) (λ e. c.loop-j-test.false (c.load.ensures ∙ ap (at _) (sym next) ∙ e))),
      L.invariant.1,
    )
