-- `call_tables::group_table` meets its contract: each return says and leaves what document 01 says there. Assumes nothing.
use mathlib.Core.Path.{◌≡◌, sym, ◌∙◌}
use mathlib.Core.Bool.{true}
use native.Mathlib.Omega.{arith}
use lib.ListN.{length}
use borrow.Author.Rules.{rules}
use Rattle.words.specs.Logs.{within}
use Rattle.call_tables.proofs.Said.{width_is, long_said, width_said, room_said, table_said}
use Rattle.read_edges.proofs.Refused.{too_long_handed}
use Rattle.call_tables.proofs.group_table.Goals.{Else-not-is_width}
use Rattle.call_tables.proofs.group_table.Goals as goal

-- past refusal 2
width_fits : (c : Else-not-is_width) → within 1 (length c.args.read.now) c.args.width ≡ true
width_fits c = sym c.is_width.ensures ∙ c.if-not-is_width.false

pub returns-in_err-check_length : goal.returns-in_err-check_length
returns-in_err-check_length c = let l = c.in_err-check_length.ensures.err in rw (too_long_handed _ _ _ c.from_residual.ensures.1 l) (long_said _ _ _ l.0)

pub returns-then-not-is_width : goal.returns-then-not-is_width
returns-then-not-is_width c = width_said _ _ _ c.in_ok-check_length.ensures.ok (sym c.is_width.ensures ∙ c.if-not-is_width.true)

pub returns-then-out-long : goal.returns-then-out-long
returns-then-out-long c = room_said _ _ _ c.in_ok-check_length.ensures.ok (width_fits (goal.at.returns-then-out-long c).Else-not-is_width) c.if-out-long.true

pub write_table-requires : goal.write_table-requires
write_table-requires c =
    let w = width_is _ _ (width_fits (goal.at.write_table-requires c).Else-not-is_width) in
    (search rules, search rules, w.0, omega (arith, w.1, c.in_ok-check_length.ensures.ok))

pub returns : goal.returns
returns c =
    let s = table_said _ _ _ c.in_ok-check_length.ensures.ok (width_fits (goal.at.returns c).Else-not-is_width) c.if-out-long.false in
    (s.0, c.write_table.ensures ∙ s.1)

pub overflow_cast-width : goal.overflow_cast-width
overflow_cast-width c = omega (arith, width_is _ _ (width_fits (goal.at.overflow_cast-width c).Else-not-is_width), c.in_ok-check_length.ensures.ok)
