-- `bench_accords::runs_agree` meets its contract: the lines by all runs are passed, run after run. Assumes nothing.
use Prim.Native.Nat.{ℕ}
use mathlib.Core.Path.{◌≡◌, sym, ◌∙◌}
use mathlib.Core.List.{List}
use native.Mathlib.Omega.{arith}
use Rattle.std.specs.Prelude.{Result}
use Rattle.words.specs.Range.{gather}
use Rattle.words.specs.Rows.{rows as rows_of}
use Rattle.words_runs.specs.Runs.{run_size, run_start, run_end, run_period}
use Rattle.words_agree.specs.Lists.{lines_by, lines_by_row, lines_by_runs, agree}
use Rattle.row_matches.specs.Matching.{nothing, at_end, Passes}
use Rattle.row_matches.proofs.Matching.{range_none, range_next, passes_all}
use Rattle.bench_accords.proofs.runs_agree.Goals as goal

-- after the last run
all-agree : (list s : List ℕ) (k : ℕ) (m : Result ℕ ℕ) → k ≡ rows_of run_size s → Passes (gather (lines_by_row s) k 0) list nothing m → at_end list m ≡ agree list s
unfolding agree lines_by_runs
all-agree list s k m e h = rw (← e) (sym (passes_all h))

-- one run
by_row : (s : List ℕ) (k : ℕ) {a b p : ℕ} {list : List ℕ} {m n : Result ℕ ℕ} → a ≡ run_start s k → b ≡ run_end s k → p ≡ run_period s k
    → Passes (lines_by a b p) list m n → Passes (lines_by_row s k) list m n
unfolding lines_by_row
by_row s k ea eb ep h = rw (← ea, ← eb, ← ep) h

pub loop-k-init : goal.loop-k-init
loop-k-init c = rw c.begin-m.ensures (range_none _ _ (omega arith))

pub agree_run-m-requires : goal.agree_run-m-requires
agree_run-m-requires c = (c.loop-k.invariant.inside, omega arith)

pub loop-k-preserved : goal.loop-k-preserved
loop-k-preserved c =
    let k = c.loop-k.k in
    let row =
    by_row _ k (c.wide-a.ensures ∙ c.start_of.ensures) (c.wide-b.ensures ∙ c.end_of.ensures) (c.wide.ensures ∙ c.period_of.ensures)
    c.agree_run-m.ensures in
    range_next _ k 0 k (omega arith) c.loop-k.invariant row

pub returns : goal.returns
returns c =
    let e : c.loop-k.k ≡ rows_of run_size c.args.runs.now = omega (arith, c.room-rows.ensures) in
    c.ended.ensures ∙ all-agree _ _ c.loop-k.k c.loop-k.m e c.loop-k.invariant
