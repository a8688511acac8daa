-- What a call made: where it says how many rows, the front of the slice is all of them. A read of at most 1,000 bytes always has room for its log, and where its list
-- has room, its runs have. Assumes nothing.
use Prim.Native.Nat.{ℕ, zero, suc, ◌*◌, ◌≤◌}
use mathlib.Core.Path.{◌≡◌, refl, sym, ap, ◌∙◌}
use mathlib.Core.List.{List}
use native.Mathlib.Omega.{arith}
use native.Mathlib.Nat.{mul-le-mul_left}
use lib.ListN.{length, length-append, length-replicate, replicate, take, drop}
use lib.Seq.{take_at}
use borrow.Author.Tests.{le-ltb}
use Rattle.words.specs.Range.{first}
use Rattle.words.specs.Rows.{rows}
use Rattle.words.specs.Reads.{most}
use Rattle.words.specs.Lists.{line_size, line_count, in_mode}
use Rattle.words.specs.Moves.{move_size, log, log2, M}
use Rattle.std.specs.Prelude.{Result, Ok}
use Rattle.words.specs.declared.Refusal.{Refusal}
use Rattle.words.specs.Answers.{Answer, success, says, counted_says}
use Rattle.words.proofs.Said.{counted_ok}
use Rattle.words.specs.Calls.{refuse, too_long, afterwards, list_afterwards, log_answer, log_leaves}
use Rattle.words.proofs.Rows.{Full, rows_times}
use Rattle.words.proofs.MoveLayout.{move_some}
use Rattle.words.proofs.Room.{log-length}
use Rattle.words.proofs.Sizes.{room_few}
use Rattle.words.proofs.Afterwards.{front}
use Rattle.words_runs.specs.Runs.{run_size, runs, run_count}
use Rattle.words_runs.specs.Calls.{runs_answer, runs_leaves}
use Rattle.words_runs.proofs.RunLayout.{run-some}
use Rattle.words_runs.proofs.Lists.{runs_full}
use Rattle.words_runs.proofs.Fewer.{runs_no_more}
use Rattle.call_answers.specs.Plain.{plain}

-- rows of c numbers
module _ (c : ℕ) (own out : List ℕ) (full : Full c own) {a : Answer} {made : List ℕ} (says : a ≡ success (rows c own)) (left : made ≡ front own out) {k : ℕ}
    (told : k ≡ (plain a).value) where
  made-size : length own ≡ c * k
  unfolding plain success
  made-size = full ∙ ap (λ (v : ℕ). c * v) (sym (told ∙ ap (λ (b : Answer). (plain b).value) says))

  pub made_whole : (take (c * k) made ≡ own) × (c * k ≤ length made)
  made_whole = (ap (take (c * k)) left ∙ take_at own (drop (length own) out) (c * k) made-size, omega (arith, ap length left, made-size, length-append own (drop (length own) out)))

-- ---- the rooms: the only place where the sizes of a line, of a move and of a run are numbers

most-moves : M most ≡ 9990
unfolding M log2 first
most-moves = refl

pub log-room : move_size * M most ≤ length (replicate {A = ℕ} 29970 0)
unfolding move_size
log-room = omega (arith, most-moves, length-replicate {A = ℕ} 29970 0)

pub list_room : length (replicate {A = ℕ} 30000 0) ≡ line_size * 10000
unfolding line_size
list_room = length-replicate {A = ℕ} 30000 0

pub runs-room : length (replicate {A = ℕ} 30000 0) ≡ run_size * 10000
unfolding run_size
runs-room = length-replicate {A = ℕ} 30000 0

-- ---- the log and the runs

-- room for the log of the longest read is room for the log of any
enough : (n : ℕ) → n ≤ most → move_size * M n ≤ move_size * M most
unfolding M
enough zero h = mul-le-mul_left move_size (omega arith)
enough (suc n) h = mul-le-mul_left move_size (omega (arith, room_few (suc n) (omega arith) h, most-moves))

log_full : (x : List ℕ) → Full move_size (log x)
log_full x = log-length x ∙ ap (λ (v : ℕ). move_size * v) (sym (rows_times move_size (log x) _ move_some (log-length x)))

log-done : (x out : List ℕ) → length x ≤ most → move_size * M most ≤ length out → (log_answer x out ≡ success (rows move_size (log x))) × (log_leaves x out ≡ front (log x) out)
unfolding log_answer log_leaves afterwards refuse too_long success
log-done x out few room =
    let r = le-ltb (length out) (move_size * M (length x)) (omega (arith, enough (length x) few)) in
    (rw (le-ltb most (length x) few, r), rw (le-ltb most (length x) few, r))

runs_done : (x out : List ℕ) → length x ≤ most → length out ≡ run_size * 10000 → line_count x (in_mode x 0) ≤ 10000 → (runs_answer x out ≡ success (rows run_size (runs x))) × (runs_leaves x out ≡ front (runs x) out)
unfolding runs_answer runs_leaves list_afterwards afterwards refuse too_long success run_count
runs_done x out few room fits =
    let r = le-ltb (rows run_size out) (rows run_size (runs x)) (omega (arith, runs_no_more x, rows_times run_size out 10000 run-some room)) in
    (rw (le-ltb most (length x) few, r), rw (le-ltb most (length x) few, r))

-- so both calls succeed, and say how many rows they wrote
module _ (x out : List ℕ) (few : length x ≤ most) {f : Result ℕ Refusal} where
  pub log_made : move_size * M most ≤ length out → counted_says f ≡ log_answer x out → f ≡ Ok (rows move_size (log x))
  log_made room says = counted_ok f _ (says ∙ (log-done x out few room).0)

  pub runs_made : length out ≡ run_size * 10000 → line_count x (in_mode x 0) ≤ 10000 → counted_says f ≡ runs_answer x out → f ≡ Ok (rows run_size (runs x))
  runs_made room fits says = counted_ok f _ (says ∙ (runs_done x out few room fits).0)

-- the number that a success has is its value
value_is : {f : Result ℕ Refusal} {k : ℕ} → f ≡ Ok k → k ≡ (plain (counted_says f)).value
unfolding plain says success
value_is told = rw told refl

module _ (x out : List ℕ) (few : length x ≤ most) {f : Result ℕ Refusal} {made : List ℕ} {k : ℕ} (told : f ≡ Ok k) where
  pub log_whole : move_size * M most ≤ length out → counted_says f ≡ log_answer x out → made ≡ log_leaves x out → (take (move_size * k) made ≡ log x) × (move_size * k ≤ length made)
  log_whole room says left = let D = log-done x out few room in made_whole move_size (log x) out (log_full x) (says ∙ D.0) (left ∙ D.1) (value_is told)

  pub runs_whole : length out ≡ run_size * 10000 → line_count x (in_mode x 0) ≤ 10000 → counted_says f ≡ runs_answer x out → made ≡ runs_leaves x out → (take (run_size * k) made ≡ runs x) × (run_size * k ≤ length made)
  runs_whole room fits says left = let D = runs_done x out few room fits in made_whole run_size (runs x) out (runs_full x) (says ∙ D.0) (left ∙ D.1) (value_is told)
