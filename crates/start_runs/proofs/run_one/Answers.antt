-- `start_runs::run_one` meets its contract: no run where a start stands just before, and else the run. Assumes nothing.
use mathlib.Core.Path.{sym, ◌∙◌}
use native.Mathlib.Omega.{arith}
use Rattle.row_cells.proofs.Adding.{adds_none}
use Rattle.start_runs.proofs.Runs.{run_in_later, run_in_first}
use Rattle.start_runs.proofs.run_one.Goals as goal

pub returns-then-not-first_at : goal.returns-then-not-first_at
returns-then-not-first_at c =
    let P = c.requires in
    (adds_none _ _ _ _ (run_in_later _ _ _ P.3 (sym c.first_at.ensures ∙ c.if-not-first_at.true)), omega arith)

pub returns : goal.returns
returns c =
    let P = c.requires in
    let first = sym c.first_at.ensures ∙ c.if-not-first_at.false in
    (rw (run_in_first _ _ _ P.3 first, ← c.last_at-t.ensures.0) c.add_run.ensures, omega arith)
