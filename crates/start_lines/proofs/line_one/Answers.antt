-- `start_lines::line_one` meets its contract: no line where the start is not listed, and else its line and its count. Assumes nothing.
use mathlib.Core.Path.{sym, ◌∙◌}
use native.Mathlib.Omega.{arith}
use Rattle.words.proofs.Tests.{clash}
use Rattle.row_cells.proofs.Adding.{adds_none}
use Rattle.start_lines.proofs.Lines.{wanted_tested, line_in_unwanted, line_in_wanted}
use Rattle.start_lines.proofs.Counting.{counted-follows, counted_skip, counted_more}
use Rattle.start_lines.proofs.line_one.Goals as goal

pub returns-then-not-wants : goal.returns-then-not-wants
returns-then-not-wants c =
    let P = c.requires in
    let f = wanted_tested _ _ _ _ _ _ c.leads_at-first.ensures c.wants.ensures ∙ c.if-not-wants.true in
    (adds_none _ _ _ _ (line_in_unwanted _ _ _ _ P.3 f), omega arith, counted_skip _ _ _ _ _ P.5 (λ e w. clash w f))

pub copies_at-e-requires : goal.copies_at-e-requires
copies_at-e-requires c =
    let P = c.requires in
    let E = c.leads_at-first.ensures in
    let w = wanted_tested _ _ _ _ _ _ E c.wants.ensures ∙ c.if-not-wants.false in
    (P.0, P.1, P.2, P.3, E, λ f. counted-follows _ _ _ _ _ P.5 P.0 w (sym E ∙ f))

pub returns : goal.returns
returns c =
    let P = c.requires in
    let e = c.copies_at-e.ensures in
    let w = wanted_tested _ _ _ _ _ _ c.leads_at-first.ensures c.wants.ensures ∙ c.if-not-wants.false in (
      rw (line_in_wanted _ _ _ _ P.3 w, ← e) c.add_line.ensures,
      omega arith,
      rw (c.store.ensures, e) (counted_more _ _ _ _ _ P.5 P.1 P.2),
    )
