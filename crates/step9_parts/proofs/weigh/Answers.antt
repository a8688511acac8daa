-- `step9_parts::weigh` meets its contract: the three ways of the code are those of `weighed` and `with_loser`. Assumes nothing.
use mathlib.Core.Path.{sym, ◌∙◌}
use Rattle.step9_parts.proofs.Weighing.{weigh_first, weigh_takes, weigh_keeps}
use Rattle.step9_parts.proofs.weigh.Goals as goal

pub returns-then-b-eq0 : goal.returns-then-b-eq0
returns-then-b-eq0 c =
    let W = weigh_first _ _ _ _ c.load-b.ensures c.if-b-eq0.true in
    (c.store.ensures ∙ W.0, W.1)

pub returns-then-better : goal.returns-then-better
returns-then-better c =
    let W = weigh_takes _ _ _ _ c.load-b.ensures c.load.ensures c.load-2.ensures c.if-b-eq0.false (sym c.better.ensures ∙ c.if-better.true) in
    (c.store-then-better.ensures ∙ W.0, c.mark.ensures ∙ W.1)

pub returns : goal.returns
returns c =
    let W = weigh_keeps _ _ _ _ c.load-b.ensures c.load.ensures c.load-2.ensures c.if-b-eq0.false (sym c.better.ensures ∙ c.if-better.false) c.requires.2 in
    (W.0, c.mark-2.ensures ∙ W.1)
