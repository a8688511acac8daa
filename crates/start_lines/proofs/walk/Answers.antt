-- `start_lines::walk` meets its contract. The loop's invariant: of the chain, e - 1 starts are passed, and it goes on at j; the measure is what is left
-- of the array. Assumes nothing.
use Prim.Native.Nat.{◌+◌, ◌≤◌}
use mathlib.Core.Path.{◌≡◌, sym, ◌∙◌}
use native.Mathlib.Omega.{arith}
use Rattle.words.specs.Reads.{at}
use Rattle.start_lines.proofs.Chains.{chain_on, chain_stop}
use Rattle.start_lines.proofs.walk.Goals as goal

pub loop-e-init : goal.loop-e-init
loop-e-init c =
    let N = c.requires.0 in
    let l : c.args.i + c.args.p ≤ 1000 = N.inside c.args.i c.requires.1 c.requires.2 c.requires.3 in
    (omega arith, l, omega (arith, N.some), omega (arith, chain_on _ _ N c.args.i c.requires.1 c.requires.3))

pub loop-e-preserved : goal.loop-e-preserved
loop-e-preserved c =
    let N = c.requires.0 in
    let L = c.loop-e in
    let s : at c.args.dist.now L.j ≡ c.args.p = sym c.load.ensures ∙ c.loop-e-test.true in
    (omega arith, N.inside L.j L.invariant.0 L.invariant.1 s, omega (arith, N.some), omega (arith, L.invariant.3, chain_on _ _ N L.j L.invariant.0 s))

pub returns : goal.returns
returns c =
    let L = c.loop-e in
    omega (arith, L.invariant.3, chain_stop _ _ L.j (λ e. c.loop-e-test.false (c.load.ensures ∙ e)))
