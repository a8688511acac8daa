-- Document 02, item 3, over the contract of the call: the list of runs has exactly the maximal repetitions, each once, in order. Assumes nothing.
use Prim.Native.Nat.{ℕ, ◌*◌, ◌≤◌, ◌<◌}
use mathlib.Core.Path.{◌≡◌, sym}
use mathlib.Core.Logic.{◌⊎◌, ◌↔◌, ◌≢◌}
use mathlib.Core.Bool.{true}
use mathlib.Core.List.{List}
use lib.ListN.{length}
use Rattle.words.specs.Rows.{row, rows}
use Rattle.words.specs.Reads.{at, unread}
use Rattle.words.specs.Answers.{success, refusal, counted_says}
use Rattle.words.proofs.Rows.{Has}
use Rattle.words.proofs.Afterwards.{front}
use Rattle.words_runs.specs.Runs.{run, reach, run_of, run_size, runs, run_count}
use Rattle.words_runs.proofs.Runs.{run_is, run-reach}
use Rattle.words_runs.proofs.Lists.{runs_full, runs-row, runs_exactly, runs_ordered, runs_once}
use Rattle.words_runs.proofs.Unread.{run_read}
use Rattle.call_runs.proofs.runs.Reads as Runs-call
use Rattle.lister.proofs.Demands.{every_call_is_answered}

-- the list that was made holds exactly the runs, each once, by period, then start, and nothing else; a run ends where its period stops, and has no N
pub record MaximalRepetitions (x made : List ℕ) : Type 0 where
  pub exactly : (a b p : ℕ) → Has run_size made (run_of a b p) ↔ (run x a b p ≡ true)
  pub whole : length made ≡ run_size * rows run_size made
  pub line : (k : ℕ) → k < rows run_size made → (a b p : ℕ) × (row run_size made k ≡ run_of a b p)
  pub once : (h k : ℕ) → h < rows run_size made → k < rows run_size made → row run_size made h ≡ row run_size made k → h ≡ k
  pub ordered : (h k a b p c d q : ℕ) → h < k → k < rows run_size made → row run_size made h ≡ run_of a b p → row run_size made k ≡ run_of c d q → (p < q) ⊎ ((p ≡ q) × (a < c))
  pub ends : (a b p : ℕ) → Has run_size made (run_of a b p) → b ≡ reach x p a
  pub read : (a b p k : ℕ) → Has run_size made (run_of a b p) → a ≤ k → k ≤ b → at x k ≢ unread

maximal_runs : (x : List ℕ) → MaximalRepetitions x (runs x)
maximal_runs x =
    record {
      exactly = runs_exactly x;
      whole = runs_full x;
      line = λ k b. let L = runs-row x k b in (L.start, L.end, L.period, L.is);
      once = runs_once x;
      ordered = runs_ordered x;
      ends = λ a b p h. sym (run-reach x a b p (run_is x a b p ((runs_exactly x a b p).0 h)));
      read = λ a b p k h. run_read x a b p ((runs_exactly x a b p).0 h) k;
    }

-- where the call succeeds, the front of the slice is exactly the list of runs, the rest is as it was, and the answer is their number
pub runs_are_the_maximal_repetitions : (κs : _) (a : _) (r : _) (e : _) → Runs-call.Learnt κs a r e → (counted_says r).number ≡ 0
    → (made : List ℕ) × (e.1.0.now ≡ front made a.1.0.now) × (counted_says r ≡ success (rows run_size made)) × MaximalRepetitions a.0.now made
unfolding success refusal run_count
runs_are_the_maximal_repetitions κs a r e h ok =
    let B = (every_call_is_answered.runs κs a).1 r e h in
    let g = B.gives 0 ((B.exactly 0).0 ok) in
    (runs a.0.now, g.1, g.0, maximal_runs a.0.now)
