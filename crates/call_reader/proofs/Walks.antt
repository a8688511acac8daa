-- Walking a log from place 0 gives exactly its whole entries, in order and as they stand, and then that it has ended, for ever: call k is made at place k as
-- long as there is an entry k, and every later one at the place after the last. Assumes nothing.
use Prim.Native.Nat.{ℕ, zero, suc, ◌+◌, ◌≤◌, ◌<◌}
use mathlib.Core.Path.{◌≡◌, ap, ◌∙◌}
use mathlib.Core.Logic.{⊎_elim}
use mathlib.Core.List.{List}
use native.Mathlib.Omega.{arith}
use denote.Ref.{Bor}
use Rattle.words.specs.Rows.{row, rows}
use Rattle.words.specs.Moves.{move_of, move_size, width_of, name_of, place_of}
use Rattle.words.specs.Calls.{reader_takes}
use Rattle.words.specs.declared.Taken.{Taken}
use Rattle.std.specs.Prelude.{Option, Some, None}
use Rattle.words.specs.declared.Entry.{Entry}
use Rattle.words.proofs.MoveLayout.{entry_row}
use Rattle.words.proofs.Tests.{lt_or_ge}
use Rattle.call_reader.specs.Readers.{takes, placed}
use Rattle.call_reader.specs.Walks.{call}
use Rattle.call_reader.specs.declared.LogReader.{LogReader}
use Rattle.call_reader.proofs.Takes.{takes_entry, takes_ended}

module _ (l : List ℕ) where
  -- a call after one that gave the place j is made at j
  call_next : (k j : ℕ) (e : Option Entry) → call l k ≡ record { entry = e; at = j } → call l (suc k) ≡ reader_takes l j
  unfolding call
  call_next k j e h = ap (λ (t : Taken). reader_takes l t.at) h

  pub call_entry : (k : ℕ) → k < rows move_size l → call l k ≡ record { entry = Some (record { width = (width_of l k); name = (name_of l k); position = (place_of l k) }); at = k + 1 }
  unfolding call
  call_entry zero h = takes_entry l 0 h
  call_entry (suc k) h = let e : k + 1 ≡ suc k = omega arith in call_next k (suc k) _ (rw e at (call_entry k (omega arith))) ∙ takes_entry l (suc k) h

  pub call_ended : (k : ℕ) → rows move_size l ≤ k → call l k ≡ record { entry = None; at = rows move_size l }
  unfolding call
  call_ended zero h = let e : rows move_size l ≡ 0 = omega arith in rw e (takes_ended l 0 h)
  call_ended (suc k) h =
      ⊎_elim
      (λ b. let e : k + 1 ≡ rows move_size l = omega arith in call_next k (rows move_size l) _ (rw e at (call_entry k b)) ∙ after)
      (λ b. call_next k (rows move_size l) _ (call_ended k b) ∙ after)
      (lt_or_ge k (rows move_size l))
    where
      after : reader_takes l (rows move_size l) ≡ record { entry = None; at = rows move_size l }
      after = takes_ended l (rows move_size l) (omega arith)

-- the whole walk of a log
pub record WalkedLog (l : List ℕ) : Type 0 where
  pub whole : (k : ℕ) → k < rows move_size l → (w s j : ℕ) × (row move_size l k ≡ move_of w s j) × (call l k ≡ record { entry = Some (record { width = w; name = s; position = j }); at = k + 1 })
  pub ended : (k : ℕ) → rows move_size l ≤ k → call l k ≡ record { entry = None; at = rows move_size l }

pub log_walked : (l : List ℕ) → WalkedLog l
log_walked l = record { whole = λ k h. (width_of l k, name_of l k, place_of l k, entry_row l k h, call_entry l k h); ended = call_ended l }

-- readers of a log, the first as `new` makes it and each next one as `next` leaves it, walk it
module _ (l : Bor (List ℕ)) (d : ℕ → LogReader) (made : d 0 ≡ record { log = l; at = 0 }) (left : (k : ℕ) → d (suc k) ≡ placed (d k) (takes (d k)).at) where
  reader_log : (k : ℕ) → (d k).log ≡ l
  reader_log zero = ap (λ (r : LogReader). r.log) made
  reader_log (suc k) = ap (λ (r : LogReader). r.log) (left k) ∙ reader_log k

  pub readers_walk : (k : ℕ) → takes (d k) ≡ call l.now k
  unfolding call
  readers_walk zero = ap takes made
  readers_walk (suc k) = ap takes (left k) ∙ (λ i. reader_takes (reader_log k i).now (readers_walk k i).at)
