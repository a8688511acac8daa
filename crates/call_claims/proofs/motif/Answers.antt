-- `call_claims::motif` meets its contract: the part that it takes is shown or hidden by its length, and lies in the read. Assumes nothing.
use Prim.Native.Nat.{ℕ, ◌+◌, ◌-◌, ◌≤◌}
use mathlib.Core.Path.{◌≡◌, refl, sym, ◌∙◌}
use mathlib.Core.List.{List}
use native.Mathlib.Omega.{arith}
use lib.ListN.{take, drop}
use Rattle.words_claims.specs.Calls.{motif_length, motif}
use Rattle.words_claims.proofs.Motifs.{shown-fits, shown_from, shown_bytes, hidden_from, hidden_bytes}
use Rattle.call_claims.proofs.motif.Goals.{Else-count-eq0, Then-count-eq0}
use Rattle.call_claims.proofs.motif.Goals as goal

none : (c : Then-count-eq0) → let a = c.args in motif_length a.read.now a.start a.period a.copies ≡ 0
none c = sym c.motif_length-count.ensures ∙ c.if-count-eq0.true

some : (c : Else-count-eq0) → let a = c.args in 1 ≤ motif_length a.read.now a.start a.period a.copies
some c = omega (arith, c.motif_length-count.ensures, c.if-count-eq0.false)

-- the part from a place to so many bytes further
between : (x : List ℕ) (i p e w : ℕ) → w ≡ motif_length x i p e → 1 ≤ motif_length x i p e → take (i - 1 + w - (i - 1)) (drop (i - 1) x) ≡ motif x i p e
between x i p e w q l = let v : i - 1 + w - (i - 1) ≡ motif_length x i p e = omega arith in rw v (sym (shown_bytes x i p e l))

pub returns-then-count-eq0 : goal.returns-then-count-eq0
returns-then-count-eq0 c = let z = none (goal.at.returns-then-count-eq0 c).Then-count-eq0 in (sym (hidden_bytes _ _ _ _ z), refl, omega (arith, hidden_from _ _ _ _ z))

pub overflow_sub-from : goal.overflow_sub-from
overflow_sub-from c = omega (arith, shown-fits _ _ _ _ (some (goal.at.overflow_sub-from c).Else-count-eq0))

pub overflow_add-to : goal.overflow_add-to
overflow_add-to c = omega (arith, shown-fits _ _ _ _ (some (goal.at.overflow_add-to c).Else-count-eq0), c.motif_length-count.ensures)

pub slice_bounds-result-end-2 : goal.slice_bounds-result-end-2
slice_bounds-result-end-2 c = omega (arith, shown-fits _ _ _ _ (some (goal.at.slice_bounds-result-end-2 c).Else-count-eq0), c.motif_length-count.ensures)

pub returns : goal.returns
returns c = let l = some (goal.at.returns c).Else-count-eq0 in (between _ _ _ _ _ c.motif_length-count.ensures l, refl, omega (arith, shown_from _ _ _ _ l))
