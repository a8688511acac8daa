-- `call_judges::in_range` meets its contract: each part is the range of its number. Assumes nothing.
use Prim.Native.Nat.{◌-◌}
use mathlib.Core.Path.{◌≡◌, refl, ◌∙◌}
use native.Mathlib.Omega.{arith}
use Rattle.words.specs.Logs.{within}
use Rattle.words.proofs.Tests.{clash}
use Rattle.call_judges.specs.Judge.{in_range}
use Rattle.call_judges.proofs.Tuples.{below_within, upto_within}
use Rattle.call_judges.proofs.in_range.Goals.{then-contains, else-contains}
use Rattle.call_judges.proofs.in_range.Goals as goal

pub returns-then-contains-2 : goal.returns-then-contains-2
unfolding in_range
returns-then-contains-2 c =
    let wide : c.contains.result ≡ within 1 (c.args.top - 1) c.width_of.result = c.contains.ensures.value ∙ below_within 1 c.args.top c.width_of.result (omega arith) in
    let placed = c.contains-then-contains-2.ensures.value ∙ below_within 1 c.args.n c.place_of.result (omega arith) in
    rw (← c.width_of.ensures, ← c.place_of.ensures, ← c.requires.1, ← wide, ← placed)
    (elim c.if-contains.branch [
      | then-contains w ↦
          let n = w.new.ensures in
          let named = upto_within 1 c.args.n w.name_of.result _ _ _ _ n.start n.end n.exhausted w.contains-then-contains.ensures.value in
          rw (w.if-contains.true, ← w.name_of.ensures, ← named, ← w.value-is, c.if-contains-2.true) refl
      | else-contains w ↦ clash c.if-contains-2.true (w.value-is ∙ w.if-contains.false)
    ])

pub returns-else-contains-2 : goal.returns-else-contains-2
unfolding in_range
returns-else-contains-2 c =
    let wide = c.contains.ensures.value ∙ below_within 1 c.args.top c.width_of.result (omega arith) in
    rw (← c.width_of.ensures, ← c.requires.1, ← wide)
    (elim c.if-contains.branch [
      | then-contains w ↦
          let n = w.new.ensures in
          let named = upto_within 1 c.args.n w.name_of.result _ _ _ _ n.start n.end n.exhausted w.contains-then-contains.ensures.value in
          rw (w.if-contains.true, ← w.name_of.ensures, ← named, ← w.value-is, c.if-contains-2.false) refl
      | else-contains w ↦ rw (w.value-is, w.if-contains.false) refl
    ])
