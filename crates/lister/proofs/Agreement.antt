-- Document 02, item 8, over the contracts of the calls: where `list` in mode 0 and `runs` both succeed on a read, the two slices agree. Assumes nothing.
use Prim.Native.Nat.{ℕ}
use mathlib.Core.Path.{◌≡◌}
use mathlib.Core.List.{List}
use Rattle.words.specs.Rows.{rows}
use Rattle.words.specs.Lists.{line_size, lines, line_count, in_mode}
use Rattle.words.specs.Answers.{success, refusal, counted_says}
use Rattle.words.proofs.Afterwards.{front}
use Rattle.words_runs.specs.Runs.{run_size, runs, run_count}
use Rattle.words_agree.specs.Lists.{lines_by_runs}
use Rattle.words_agree.proofs.Lists.{InRun, InOneRun, lists_agree, lists_one_run}
use Rattle.words_agree.proofs.ByRuns.{list_by_runs}
use Rattle.call_lists.proofs.list.Reads as list-call
use Rattle.call_runs.proofs.runs.Reads as Runs-call
use Rattle.lister.proofs.Demands.{every_call_is_answered}

-- the lines l and the runs s, alone: there is no read here
pub record RunsAndRepeatsAgree (l s : List ℕ) : Type 0 where
  -- l has (i, p, e) exactly when s has a run of period p that covers i, and e, at least 2, is the number of whole periods from i to that run's end
  pub in_run : InRun l s
  -- each line of l lies whole in exactly one run of s of its own period
  pub in_one_run : InOneRun l s
  -- and, line by line, l is what the runs of s give, one after another
  pub unrolled : lines_by_runs s ≡ l

agree_lists : (x : List ℕ) → RunsAndRepeatsAgree (lines x (in_mode x 0)) (runs x)
agree_lists x = record { in_run = lists_agree x; in_one_run = lists_one_run x; unrolled = list_by_runs x }

-- where both calls succeed, the front of the one slice is as many lines as its call answers, the front of the other as many runs, and these agree
pub runs_and_repeats_agree : (κs : _) (a : _) (r : _) (e : _) → list-call.Learnt κs a r e → (ls : _) (b : _) (q : _) (f : _) → Runs-call.Learnt ls b q f
    → b.0.now ≡ a.0.now → a.1.0 ≡ 0 → (counted_says r).number ≡ 0 → (counted_says q).number ≡ 0
    → (l s : List ℕ) × (e.1.1.0.now ≡ front l a.1.1.0.now) × (counted_says r ≡ success (rows line_size l))
    × (f.1.0.now ≡ front s b.1.0.now) × (counted_says q ≡ success (rows run_size s)) × RunsAndRepeatsAgree l s
unfolding success refusal line_count run_count
runs_and_repeats_agree κs a r e h ls b q f g same mode ok done =
    let x : List ℕ = a.0.now in
    let A = (every_call_is_answered.list κs a).1 r e h in
    let L = A.gives 0 ((A.exactly 0).0 ok) in
    let B = (every_call_is_answered.runs ls b).1 q f g in
    let R = B.gives 0 ((B.exactly 0).0 done) in
    (lines x (in_mode x 0), runs x, rw mode at L.1, rw mode at L.0, rw same at R.1, rw same at R.0, agree_lists x)
