-- The three demands, over the contract of each call as the source states it: `Asked` is what a caller has to show, `Learnt` what it learns. Each
-- time a holds the arguments of a call, r is what it returns, and e holds the arguments afterwards. Open this file first. Assumes nothing.
use Prim.Native.Nat.{ℕ, ◌-◌, ◌*◌, ◌≤◌, ◌<◌}
use mathlib.Core.Path.{◌≡◌, refl, sym, ap, ◌∙◌}
use mathlib.Core.Logic.{◌⊎◌, inl, inr, ◌↔◌}
use mathlib.Core.Bool.{true}
use mathlib.Core.List.{List, []}
use native.Mathlib.Omega.{arith}
use lib.ListN.{length}
use Rattle.words.specs.Range.{sum}
use Rattle.words.specs.Rows.{row, rows}
use Rattle.words.specs.Reads.{most}
use Rattle.words.specs.Repeats.{repeats, leads}
use Rattle.words.specs.Lists.{line_of, line_size, lines, line_count, in_mode}
use Rattle.words.specs.Moves.{top_of, top, move_of, move_size, log, M}
use Rattle.words.specs.Logs.{before}
use Rattle.words.specs.Answers.{success, refusal, counted_says}
use Rattle.words_index.specs.Calls.{list_indexed_says}
use Rattle.words_claims.specs.Calls.{claimed_says}
use Rattle.words.specs.Calls.{table_answer, table_leaves, replay_answer, replay_leaves}
use Rattle.words.proofs.Tests.{lt_or_ge}
use Rattle.words.proofs.Rows.{Has, rows_times}
use Rattle.words.proofs.Lists.{mode_all, mode_leading, lines_full, lines-row, lines_exactly, lines_ordered, lines_once}
use Rattle.words.proofs.Afterwards.{front}
use Rattle.words.proofs.Replay.{replay-own}
use Rattle.words.proofs.Logs.{Move, log_exactly, log_ordered, log_well_formed}
use Rattle.words.proofs.MoveLayout.{move_some}
use Rattle.words.proofs.Room.{log-length, log-room}
use Rattle.partition.specs.Stand.{groups}
use Rattle.partition.specs.declared.Partition.{Partition}
use Rattle.partition.proofs.OfRead.{of_groups}
use Rattle.call_lists.proofs.list.Reads as list-call
use Rattle.call_runs.proofs.runs.Reads as Runs-call
use Rattle.call_tables.proofs.group_table.Reads as table-call
use Rattle.call_logs.proofs.log.Reads as log-call
use Rattle.call_replays.proofs.replay.Reads as replay-call
use Rattle.call_list_indexes.proofs.list_index.Reads as both-call
use Rattle.call_indexes.proofs.index.Reads as index-call
use Rattle.call_lookups.proofs.lookup.Reads as lookup-call
use Rattle.call_claims.proofs.claim.Reads as claim-call
use Rattle.call_claims.proofs.motif.Reads as motif-call
use Rattle.call_primers.proofs.find_primer.Reads as find-call
use Rattle.call_primers.proofs.reverse_complement.Reads as turn-call
use Rattle.call_reader.proofs.take_at.Reads as take-call
use Rattle.call_reader.proofs.LogReader.new.Reads as new-call
use Rattle.call_reader.proofs.LogReaderIterator.next.Reads as next-call
use Rattle.lister.proofs.Refusals.{By, list_rows, runs_rows, table_rows, log_rows, replay_rows, claim_rows, find_rows, turn_rows, index_rows, list_index_rows, beside_rows}
use Rattle.lister.proofs.Answered.{by_equal, list_by, runs_by, table_by, log_by, replay_by, claim_by, find_by, turn_by, index_by, list_index_by, beside_by}
use Rattle.lister.proofs.Handed.{MotifOf, motif_of, TakesOf, takes_of, LooksOf, looks_of}
use Rattle.lister.proofs.Steps.{Steps, steps_of, steps_sum}

-- ---- the first demand

-- every call takes any input, its answer and slice go by its table of refusals, and motif and entry are given exactly when they should be
pub record EveryCallIsAnswered : Type 0 where
  pub list : (κs : _) (a : _) → list-call.Asked κs a × ((r : _) (e : _) → list-call.Learnt κs a r e → By (list_rows a.0.now a.1.0 a.1.1.0.now) (counted_says r) e.1.1.0.now)
  pub runs : (κs : _) (a : _) → Runs-call.Asked κs a × ((r : _) (e : _) → Runs-call.Learnt κs a r e → By (runs_rows a.0.now a.1.0.now) (counted_says r) e.1.0.now)
  pub table : (κs : _) (a : _) → table-call.Asked κs a × ((r : _) (e : _) → table-call.Learnt κs a r e → By (table_rows a.0.now a.1.0 a.1.1.0.now) (counted_says r) e.1.1.0.now)
  pub log : (κs : _) (a : _) → log-call.Asked κs a × ((r : _) (e : _) → log-call.Learnt κs a r e → By (log_rows a.0.now a.1.0.now) (counted_says r) e.1.0.now)
  pub replay : (κs : _) (a : _) → replay-call.Asked κs a × ((r : _) (e : _) → replay-call.Learnt κs a r e → By (replay_rows a.0.now a.1.0.now a.1.1.0 a.1.1.1.0.now) (counted_says r) e.1.1.1.0.now)
  pub claim : (κs : _) (a : _) → claim-call.Asked κs a × ((r : _) (e : _) → claim-call.Learnt κs a r e → By (claim_rows a.0.now a.1.0 a.1.1.0 a.1.1.1.0) (claimed_says r) [])
  pub find : (κs : _) (a : _) → find-call.Asked κs a × ((r : _) (e : _) → find-call.Learnt κs a r e → By (find_rows a.0.now a.1.0.now a.1.1.0.now) (counted_says r) e.1.1.0.now)
  pub turn : (κs : _) (a : _) → turn-call.Asked κs a × ((r : _) (e : _) → turn-call.Learnt κs a r e → By (turn_rows a.0.now a.1.0.now) (counted_says r) e.1.0.now)
  pub list_index : (κs : _) (a : _) → both-call.Asked κs a × ((r : _) (e : _) → both-call.Learnt κs a r e
      → By (list_index_rows a.0.now a.1.0 a.1.1.0.now a.1.1.1.0.now) (list_indexed_says r) e.1.1.0.now
      × By (beside_rows a.0.now a.1.0 a.1.1.0.now a.1.1.1.0.now) (list_indexed_says r) e.1.1.1.0.now)
  pub index : (κs : _) (a : _) → index-call.Asked κs a × ((r : _) (e : _) → index-call.Learnt κs a r e → By (index_rows a.0.now a.1.0.now) (counted_says r) e.1.0.now)
  pub lookup : (κs : _) (a : _) → lookup-call.Asked κs a × ((r : _) (e : _) → lookup-call.Learnt κs a r e → LooksOf a.0.now a.1.0 r)
  pub motif : (κs : _) (a : _) → motif-call.Asked κs a × ((r : _) (e : _) → motif-call.Learnt κs a r e → MotifOf a.0 a.1.0 a.1.1.0 a.1.1.1.0 r)
  pub take : (κs : _) (a : _) → take-call.Asked κs a × ((r : _) (e : _) → take-call.Learnt κs a r e → TakesOf a.0.now a.1.0 r.entry r.at)
  pub new : (κs : _) (a : _) → new-call.Asked κs a × ((r : _) (e : _) → new-call.Learnt κs a r e → (r.log ≡ a.0) × (r.at ≡ 0))
  pub next : (κs : _) (a : _) → next-call.Asked κs a × ((r : _) (e : _) → next-call.Learnt κs a r e → TakesOf a.0.now.log.now a.0.now.at r e.0.now.at × (e.0.now.log ≡ a.0.now.log))

pub every_call_is_answered : EveryCallIsAnswered
every_call_is_answered =
    record {
      list = λ κs a. (tt, λ r e h. by_equal h.0 h.1 (list_by _ _ _));
      runs = λ κs a. (tt, λ r e h. by_equal h.0 h.1 (runs_by _ _));
      table = λ κs a. (tt, λ r e h. by_equal h.0 h.1 (table_by _ _ _));
      log = λ κs a. (tt, λ r e h. by_equal h.0 h.1 (log_by _ _));
      replay = λ κs a. (tt, λ r e h. by_equal h.0 h.1 (replay_by _ _ _ _));
      claim = λ κs a. (tt, λ r e h. by_equal h refl (claim_by _ _ _ _));
      find = λ κs a. (tt, λ r e h. by_equal h.0 h.1 (find_by _ _ _));
      turn = λ κs a. (tt, λ r e h. by_equal h.0 h.1 (turn_by _ _));
      list_index = λ κs a. (tt, λ r e h. (by_equal h.0 h.1 (list_index_by _ _ _ _), by_equal h.0 h.2 (beside_by _ _ _ _)));
      index = λ κs a. (tt, λ r e h. by_equal h.0 h.1 (index_by _ _));
      lookup = λ κs a. (tt, λ r e h. looks_of _ _ _ h);
      motif = λ κs a. (tt, λ r e h. motif_of _ _ _ _ r h.0 h.1 h.2);
      take = λ κs a. (tt, λ r e h. takes_of _ _ _ _ (ap (λ t. t.entry) h) (ap (λ t. t.at) h));
      new = λ κs a. (tt, λ r e h. (ap (λ t. t.log) h, ap (λ t. t.at) h));
      next = λ κs a. (tt, λ r e h. (takes_of _ _ _ _ h.0.0 (ap (λ t. t.at) h.0.1), ap (λ t. t.log) h.0.1));
    }

-- ---- the second demand

-- the list that was made holds exactly the repeats, all or only the leading ones, each once, by period, then start, and nothing else
pub record Crochemores (x : List ℕ) (mode : ℕ) (made : List ℕ) : Type 0 where
  pub full : mode ≡ 0 → (i p e : ℕ) → Has line_size made (line_of i p e) ↔ (repeats x i p e ≡ true)
  pub leading : mode ≡ 1 → (i p e : ℕ) → Has line_size made (line_of i p e) ↔ ((repeats x i p e ≡ true) × (leads x i p ≡ true))
  pub whole : length made ≡ line_size * rows line_size made
  pub line : (k : ℕ) → k < rows line_size made → (i p e : ℕ) × (row line_size made k ≡ line_of i p e)
  pub once : (h k : ℕ) → h < rows line_size made → k < rows line_size made → row line_size made h ≡ row line_size made k → h ≡ k
  pub ordered : (h k i p e j q d : ℕ) → h < k → k < rows line_size made → row line_size made h ≡ line_of i p e → row line_size made k ≡ line_of j q d → (p < q) ⊎ ((p ≡ q) × (i < j))

crochemores_lines : (x : List ℕ) (mode : ℕ) → Crochemores x mode (lines x (in_mode x mode))
crochemores_lines x mode =
    record {
      full = λ m i p e. full m i p e;
      leading = λ m i p e. leading m i p e;
      whole = lines_full x (in_mode x mode);
      line = λ k b. let L = lines-row x (in_mode x mode) k b in (L.start, L.period, L.count, L.is);
      once = lines_once x (in_mode x mode);
      ordered = λ h k i p e j q d l b u v. lines_ordered x (in_mode x mode) h k i p e j q d l b u v;
    }
  where
    full : mode ≡ 0 → (i p e : ℕ) → Has line_size (lines x (in_mode x mode)) (line_of i p e) ↔ (repeats x i p e ≡ true)
    full m i p e = rw m (λ h. ((lines_exactly x (in_mode x 0) i p e).0 h).0, λ t. (lines_exactly x (in_mode x 0) i p e).1 (t, mode_all x p i))

    leading : mode ≡ 1 → (i p e : ℕ) → Has line_size (lines x (in_mode x mode)) (line_of i p e) ↔ ((repeats x i p e ≡ true) × (leads x i p ≡ true))
    leading m i p e =
        rw m (
          λ h. let r = (lines_exactly x (in_mode x 1) i p e).0 h in (r.0, sym (mode_leading x p i) ∙ r.1),
          λ t. (lines_exactly x (in_mode x 1) i p e).1 (t.0, mode_leading x p i ∙ t.1),
        )

-- where the list call succeeds, the front of the slice is exactly Crochemore's list, the rest is as it was, and the answer is its number of lines
pub list_is_crochemores : (κs : _) (a : _) (r : _) (e : _) → list-call.Learnt κs a r e → (counted_says r).number ≡ 0
    → (made : List ℕ) × (e.1.1.0.now ≡ front made a.1.1.0.now) × (counted_says r ≡ success (rows line_size made)) × Crochemores a.0.now a.1.0 made
unfolding success refusal line_count
list_is_crochemores κs a r e h ok =
    let B = (every_call_is_answered.list κs a).1 r e h in
    let g = B.gives 0 ((B.exactly 0).0 ok) in
    (lines a.0.now (in_mode a.0.now a.1.0), g.1, g.0, crochemores_lines a.0.now a.1.0)

-- ---- the third demand

-- the log l that was written, alone: the rule's moves, in order, at most M(n), as many as the steps answer, and its replay is the group table
pub record GivesTheGroups (x l : List ℕ) : Type 0 where
  pub rule : (w s j : ℕ) → Has move_size l (move_of w s j) ↔ Move x w s j
  pub ordered : (h k : ℕ) → h < k → k < rows move_size l → before l h k ≡ true
  pub few : length l ≤ move_size * M (length x)
  pub whole : length l ≡ move_size * rows move_size l
  pub summed : (p : ℕ → Partition) (m : ℕ → ℕ) → Steps x p m → rows move_size l ≡ sum m (top x - 1) 1
  pub groups : (κs : _) (a : _) (r : _) (e : _) → replay-call.Learnt κs a r e → (ls : _) (b : _) (q : _) (f : _) → table-call.Learnt ls b q f
      → a.0.now ≡ x → a.1.0.now ≡ l → b.0.now ≡ x → b.1.0 ≡ a.1.1.0 → b.1.1.0.now ≡ a.1.1.1.0.now → 1 ≤ length x → 1 ≤ b.1.0 → b.1.0 ≤ top x
      → (counted_says r ≡ counted_says q) × (e.1.1.1.0.now ≡ f.1.1.0.now)

module _ (x : List ℕ) (w : ℕ) (out : List ℕ) (some : 1 ≤ length x) (low : 1 ≤ w) (high : w ≤ top x) where
  -- the replay of the read's own log says and leaves what the group table does, the refusals too
  own-replay : (replay_answer x (log x) w out ≡ table_answer x w out) × (replay_leaves x (log x) w out ≡ table_leaves x w out)
  unfolding top top_of
  own-replay = go (lt_or_ge most (length x)) (lt_or_ge (length out) (length x))
    where
      wide : w ≤ length x
      wide = omega arith

      go : (most < length x) ⊎ (length x ≤ most) → (length out < length x) ⊎ (length x ≤ length out) → (replay_answer x (log x) w out ≡ table_answer x w out) × (replay_leaves x (log x) w out ≡ table_leaves x w out)
      go (inl h) r = let P = (replay_by x (log x) w out).gives 1 h in let T = (table_by x w out).gives 1 h in (P.0 ∙ sym T.0, P.1 ∙ sym T.1)
      go (inr h) (inl r) =
          let P = (replay_by x (log x) w out).gives 4 (h, (some, low, high), r) in
          let T = (table_by x w out).gives 4 (h, low, wide, r) in
          (P.0 ∙ sym T.0, P.1 ∙ sym T.1)
      go (inr h) (inr r) =
          let P = (replay_by x (log x) w out).gives 0 (h, (some, low, high), r, log_well_formed x) in
          let T = (table_by x w out).gives 0 (h, low, wide, r) in
          (P.0 ∙ sym T.0, P.1 ∙ ap (λ (t : List ℕ). front t out) (replay-own x w low high) ∙ sym T.1)

log_gives : (x : List ℕ) → GivesTheGroups x (log x)
log_gives x =
    record {
      rule = log_exactly x;
      ordered = log_ordered x;
      few = log-room x;
      whole = log-length x ∙ ap (λ (k : ℕ). move_size * k) (sym (rows_times move_size (log x) _ move_some (log-length x)));
      summed = λ p m S. sym (steps_sum x p m S);
      groups = λ κs a r e P ls b q f T ex el eb ew eo some low high.
          let own = own-replay x b.1.0 b.1.1.0.now some low high in
          let R = rw (ex, el, ← ew, ← eo) at P in
          let G = rw eb at T in
          (R.0 ∙ own.0 ∙ sym G.0, R.1 ∙ own.1 ∙ sym G.1);
    }

-- where the log call succeeds, the front of the slice is such a log, the rest is as it was, and the answer is its number of moves
pub log_alone_gives_the_groups : (κs : _) (a : _) (r : _) (e : _) → log-call.Learnt κs a r e → (counted_says r).number ≡ 0
    → (l : List ℕ) × (e.1.0.now ≡ front l a.1.0.now) × (counted_says r ≡ success (rows move_size l)) × GivesTheGroups a.0.now l
unfolding success refusal
log_alone_gives_the_groups κs a r e h ok =
    let B = (every_call_is_answered.log κs a).1 r e h in
    let g = B.gives 0 ((B.exactly 0).0 ok) in
    (log a.0.now, g.1, g.0, log_gives a.0.now)

-- where the group table call succeeds, the front of the slice is the groups of the read's partition after width - 1 steps
pub table_is_the_partitions : (κs : _) (a : _) (r : _) (e : _) → table-call.Learnt κs a r e → (counted_says r).number ≡ 0
    → (p : ℕ → Partition) (m : ℕ → ℕ) → Steps a.0.now p m → e.1.1.0.now ≡ front (groups (p a.1.0)) a.1.1.0.now
table_is_the_partitions κs a r e h ok p m S =
    let B = (every_call_is_answered.table κs a).1 r e h in
    let w = (B.exactly 0).0 ok in
    (B.gives 0 w).1 ∙ ap (λ (t : List ℕ). front t a.1.1.0.now) (sym (of_groups _ _ _ (steps_of a.0.now p m S a.1.0 w.1 w.2)))
