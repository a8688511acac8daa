-- `text_groups::few_of` meets its contract: no first position, no next one, or both. Assumes nothing.
use mathlib.Core.Path.{sym, ◌∙◌}
use Rattle.text_groups.proofs.Sizes.{few_none, first-inside, few_one, few_more}
use Rattle.text_groups.proofs.few_of.Goals as goal

pub returns-in_default : goal.returns-in_default
returns-in_default c = few_none _ _ c.in_default.ensures

pub next_of-requires : goal.next_of-requires
next_of-requires c = first-inside _ _ c.in-Some.ensures

pub returns-then-is_some : goal.returns-then-is_some
returns-then-is_some c = few_more _ _ c.in-Some.ensures _ c.next_of.ensures (sym c.is_some.ensures ∙ c.if-is_some.true)

pub returns-else-is_some : goal.returns-else-is_some
returns-else-is_some c = few_one _ _ c.in-Some.ensures _ c.next_of.ensures (sym c.is_some.ensures ∙ c.if-is_some.false)
