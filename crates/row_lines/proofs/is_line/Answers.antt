-- `row_lines::is_line` meets its contract: three numbers are compared, if there are three. Assumes nothing.
use mathlib.Core.Path.{sym, ◌∙◌}
use Rattle.row_lines.proofs.Compared.{rest_is, line_short, line_told}
use Rattle.row_lines.proofs.is_line.Goals as goal

pub returns-in_default : goal.returns-in_default
returns-in_default c = sym (line_short _ _ _ _ (rw (rest_is _ _) at c.in_default.len_below))

pub returns-in-len3-up : goal.returns-in-len3-up
returns-in-len3-up c =
    let q = rest_is c.args.lines.now c.args.at in
    c.eq.ensures ∙ rw (c.wide.ensures, c.wide-in-len3-up.ensures, c.wide-in-len3-up-2.ensures, q) (line_told _ _ _ _ (rw q at c.in-len3-up.len_at_least))
