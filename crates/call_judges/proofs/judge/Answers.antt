-- `call_judges::judge` meets its contract: the tests are the parts of `good`, and the last is whether the width was seen of the position. Assumes nothing.
use Prim.Native.Nat.{◌≤◌}
use mathlib.Core.Path.{◌≡◌, refl, sym, ◌∙◌}
use mathlib.Core.Bool.{true}
use Rattle.words.specs.Reads.{at}
use Rattle.words.specs.Moves.{place_of}
use Rattle.call_judges.specs.Judge.{in_range, follows}
use Rattle.words.proofs.Tests.{clash}
use Rattle.call_judges.proofs.Judging.{range_fails, order_fails, place_inside, seen_bad, seen_good, seen_step}
use Rattle.call_judges.proofs.judge.Goals.{After-load, Else-not-comes_after, then-not-in_range-via-then-not-in_range, then-not-in_range-via-else-not-in_range+then-not-comes_after}
use Rattle.call_judges.proofs.judge.Goals as goal

-- once the first two tests are passed
ranged : (c : Else-not-comes_after) → in_range c.args.n c.args.log.now c.args.k ≡ true
ranged c = sym c.in_range.ensures ∙ c.if-not-in_range.false

after : (c : Else-not-comes_after) → follows c.args.log.now c.args.k ≡ true
after c = sym c.comes_after.ensures ∙ c.if-not-comes_after.false

inside : (c : Else-not-comes_after) → (1 ≤ place_of c.args.log.now c.args.k) × (place_of c.args.log.now c.args.k ≤ 1000)
inside c = place_inside _ c.requires.1 _ _ _ c.requires.3 (ranged c) (after c)

seen-width : (c : After-load) → at c.args.seen.now (place_of c.args.log.now c.args.k) ≡ c.load.result
seen-width c = rw (← c.place_of-i.ensures) (sym c.load.ensures)

pub returns-then-not-in_range : goal.returns-then-not-in_range
returns-then-not-in_range c = (
  sym
      (elim c.then-not-in_range.branch [
        | then-not-in_range-via-then-not-in_range w ↦ range_fails _ _ _ (sym c.in_range.ensures ∙ w.if-not-in_range.true)
        | then-not-in_range-via-else-not-in_range+then-not-comes_after w ↦
            order_fails _ _ _ (sym c.in_range.ensures ∙ w.if-not-in_range.false) (sym w.comes_after.ensures ∙ w.if-not-comes_after.true)
      ]),
  λ t. clash t refl,
)

pub load-requires : goal.load-requires
load-requires c = rw (← c.place_of-i.ensures) at (inside (goal.at.load-requires c).Else-not-comes_after)

pub returns-then-load-w : goal.returns-then-load-w
returns-then-load-w c =
    let s = (goal.at.returns-then-load-w c).Else-not-comes_after in
    (sym (seen_bad _ c.requires.1 _ _ _ c.requires.3 (ranged s) (after s) (seen-width (goal.at.returns-then-load-w c).After-load ∙ c.if-load-w.true ∙ c.width_of-w.ensures)), λ t. clash t refl)

pub store-requires : goal.store-requires
store-requires c = rw (← c.place_of-i.ensures) at (inside (goal.at.store-requires c).Else-not-comes_after)

pub returns : goal.returns
returns c =
    let s = (goal.at.returns c).Else-not-comes_after in
    let r = ranged s in
    let f = after s in
    let g = seen_good _ c.requires.1 _ _ _ c.requires.3 r f (λ e. c.if-load-w.false (sym (seen-width (goal.at.returns c).After-load) ∙ e ∙ sym c.width_of-w.ensures)) in
    (sym g, λ t. seen_step _ c.requires.1 _ _ _ c.requires.3 r f g _ (rw (← c.width_of-w.ensures, ← c.place_of-i.ensures) c.store.ensures))
