-- `call_primers::reverse` meets its contract. The loop's invariant: the first k letters of the reverse complement are stored. Assumes nothing.
use Prim.Native.Nat.{ℕ, ◌+◌}
use mathlib.Core.Path.{◌≡◌, sym, ap, ◌∙◌}
use mathlib.Core.List.{◌++◌}
use native.Mathlib.Omega.{arith}
use lib.ListN.{get_or, set, drop}
use Rattle.words_primers.specs.Primers.{reverse_complement}
use Rattle.words_primers.proofs.Turning.{reverse-length, reverse-at}
use Rattle.row_cells.proofs.Stored.{stored-none, stored-front, row_more, row_whole}
use Rattle.call_primers.proofs.reverse.Goals as goal

pub loop-k-init : goal.loop-k-init
loop-k-init c = sym (stored-none _ _)

pub loop-k-preserved : goal.loop-k-preserved
loop-k-preserved c =
    let u = c.args.primer.now in
    let k = c.loop-k.k in
    let z : 0 + k ≡ k = omega arith in
    ap (λ (v : ℕ). set c.loop-k.out k v) (c.turn.ensures ∙ sym (reverse-at u k c.loop-k-test.true))
    ∙ ap (λ (v : ℕ). set c.loop-k.out v (get_or (reverse_complement u) k 0)) (sym z)
    ∙ row_more _ _ _ 0 k (omega (arith, c.loop-k-test.true, reverse-length u)) c.loop-k.invariant

pub returns : goal.returns
returns c =
    let u = c.args.primer.now in
    let old = c.args.out.now in
    let n = reverse-length u in
    row_whole _ _ _ 0 c.loop-k.k (omega (arith, c.loop-k-test.false, n)) c.loop-k.invariant
    ∙ stored-front _ _ (omega (arith, n, c.requires))
    ∙ ap (λ (v : ℕ). reverse_complement u ++ drop v old) n
