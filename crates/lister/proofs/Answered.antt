-- The answers and slices that the contracts name go by the tables of the calls: in each table one row holds, and what it says is so.
-- Assumes nothing.
use Prim.Native.Nat.{ℕ, zero, suc, ◌*◌, ◌≤◌, ◌<◌}
use mathlib.Core.Path.{◌≡◌, refl, sym, ap, subst, ◌∙◌}
use mathlib.Core.Logic.{◌⊎◌, inl, inr, ⊎_elim}
use mathlib.Core.Bool.{true, false, ◌||◌, not}
use mathlib.Core.List.{List, []}
use native.Mathlib.Omega.{arith}
use lib.ListN.{length}
use lib.Dec.{eqb}
use borrow.Author.Tests.{lt-ltb, le-ltb, eq-eqb, ne_eqb}
use Rattle.words.specs.Rows.{rows}
use Rattle.words.specs.Reads.{most}
use Rattle.words.specs.Lists.{line_size, lines, line_count, in_mode}
use Rattle.words.specs.Groups.{table}
use Rattle.words.specs.Moves.{top_of, move_size, log, M}
use Rattle.words.specs.Replay.{replay}
use Rattle.words.specs.Logs.{within, first_bad, well_formed}
use Rattle.words.specs.Answers.{Answer, success, both, refusal, refused_says, says}
use Rattle.words.specs.Calls.{refuse, too_long, afterwards, list_afterwards, list_answer, list_leaves, table_answer, table_leaves, log_answer, log_leaves, replay_answer, replay_leaves}
use Rattle.words_index.specs.Index.{in_order, entry_size, entry_count}
use Rattle.words_index.specs.Calls.{index_answer, index_leaves, list_index_answer, list_index_leaves, list_index_beside}
use Rattle.words_runs.specs.Runs.{run_size, runs, run_count}
use Rattle.words_runs.specs.Calls.{runs_answer, runs_leaves}
use Rattle.words_claims.specs.Calls.{verdict, verdict_says, claimed_says, claim_answer}
use Rattle.std.specs.Prelude.{Result, Ok, Err}
use Rattle.words.specs.declared.Refusal.{Refusal}
use Rattle.words_claims.specs.declared.Verdict.{Verdict}
use Rattle.words_claims.proofs.Verdicts.{tells_long}
use Rattle.words_claims.proofs.Truth.{Says, told_if_so}
use Rattle.words_primers.specs.Primers.{longest, first_foreign, places, reverse_complement}
use Rattle.words_primers.specs.Calls.{find_answer, find_leaves, turn_answer, turn_leaves}
use Rattle.words_primers.proofs.Judged.{length-judged, foreign-judged, good-judged}
use Rattle.words.proofs.Tests.{either, or_left, or_right, lt_or_ge}
use Rattle.words.proofs.Within.{within_yes, within_no}
use Rattle.words.proofs.Afterwards.{success-front, success_list, list_full, refused-same, refused_list}
use Rattle.words_primers.proofs.Turning.{BadLength}
use Rattle.lister.proofs.Refusals.{Row, row_at, Follows, By, list_rows, runs_rows, table_rows, log_rows, ReplayWidth, replay_rows, claim_rows, GoodPrimer, HasForeign, find_rows, turn_rows, index_rows, both_rows, list_index_rows, beside_rows}

-- where some row holds and each that holds is followed, the answer goes by the table
goes_by : (t : List Row) (a : Answer) (s : List ℕ) → (k : ℕ) × (row_at t k).when → Follows t a s → By t a s
unfolding refusal
goes_by t a s w g =
    let number : (k : ℕ) → (row_at t k).when → a.number ≡ k = λ k h. ap (λ (b : Answer). b.number) (g k h).0 in
    record { exactly = λ k. (λ e. subst (λ (j : ℕ). (row_at t j).when) (sym (number w.0 w.1) ∙ e) w.1, number k); gives = g }

-- what a contract says is equal to an answer and a slice that go by a table goes by it too
pub by_equal : {t : List Row} {a b : Answer} {s u : List ℕ} → a ≡ b → s ≡ u → By t b u → By t a s
by_equal e f B = rw (e, f) B

-- ---- the tests

module _ (x : List ℕ) where
  long_yes : most < length x → too_long x ≡ true
  unfolding too_long
  long_yes h = lt-ltb most (length x) h

  long_no : length x ≤ most → too_long x ≡ false
  unfolding too_long
  long_no h = le-ltb most (length x) h

-- ---- the calls

module _ (x : List ℕ) (mode : ℕ) (out : List ℕ) where
  abbrev made : List ℕ
  made = lines x (in_mode x mode)

  abbrev count : ℕ
  count = line_count x (in_mode x mode)

  pub list_by : By (list_rows x mode out) (list_answer x mode out) (list_leaves x mode out)
  unfolding list_answer list_leaves refuse success refusal
  list_by = goes_by (list_rows x mode out) _ _ (which (lt_or_ge most (length x)) (lt_or_ge 1 mode) (lt_or_ge (rows line_size out) count)) gives
    where
      which : (most < length x) ⊎ (length x ≤ most) → (1 < mode) ⊎ (mode ≤ 1) → (rows line_size out < count) ⊎ (count ≤ rows line_size out) → (k : ℕ) × (row_at (list_rows x mode out) k).when
      which (inl h) m l = (1, h)
      which (inr h) (inl m) l = (2, (h, m))
      which (inr h) (inr m) (inl l) = (3, (h, m, l))
      which (inr h) (inr m) (inr l) = (0, (h, m, l))

      gives : Follows (list_rows x mode out) (list_answer x mode out) (list_leaves x mode out)
      gives zero w = rw (long_no x w.0, within_yes 0 1 mode (omega arith) w.1, le-ltb (rows line_size out) count w.2) (refl, success_list made out count)
      gives (suc zero) w = rw (long_yes x w) (refl, refused_list made out 1 (length x) refl refl)
      gives (suc (suc zero)) w = rw (long_no x w.0, within_no 0 1 mode (inr w.1)) (refl, refused_list made out 2 mode refl refl)
      gives (suc (suc (suc zero))) w = rw (long_no x w.0, within_yes 0 1 mode (omega arith) w.1, lt-ltb (rows line_size out) count w.2) (refl, list_full made out count)
      gives (suc (suc (suc (suc k)))) w = absurd w

module _ (x out : List ℕ) where
  pub runs_by : By (runs_rows x out) (runs_answer x out) (runs_leaves x out)
  unfolding runs_answer runs_leaves refuse success refusal
  runs_by = goes_by (runs_rows x out) _ _ (which (lt_or_ge most (length x)) (lt_or_ge (rows run_size out) (run_count x))) gives
    where
      which : (most < length x) ⊎ (length x ≤ most) → (rows run_size out < run_count x) ⊎ (run_count x ≤ rows run_size out) → (k : ℕ) × (row_at (runs_rows x out) k).when
      which (inl h) l = (1, h)
      which (inr h) (inl l) = (3, (h, l))
      which (inr h) (inr l) = (0, (h, l))

      gives : Follows (runs_rows x out) (runs_answer x out) (runs_leaves x out)
      gives zero w = rw (long_no x w.0, le-ltb (rows run_size out) (run_count x) w.1) (refl, success_list (runs x) out (run_count x))
      gives (suc zero) w = rw (long_yes x w) (refl, refused_list (runs x) out 1 (length x) refl refl)
      gives (suc (suc zero)) w = absurd w
      gives (suc (suc (suc zero))) w = rw (long_no x w.0, lt-ltb (rows run_size out) (run_count x) w.1) (refl, list_full (runs x) out (run_count x))
      gives (suc (suc (suc (suc k)))) w = absurd w

module _ (x : List ℕ) (w : ℕ) (out : List ℕ) where
  pub table_by : By (table_rows x w out) (table_answer x w out) (table_leaves x w out)
  unfolding table_answer table_leaves refuse success refusal
  table_by = goes_by (table_rows x w out) _ _ (which (lt_or_ge most (length x)) (lt_or_ge w 1) (lt_or_ge (length x) w) (lt_or_ge (length out) (length x))) gives
    where
      which : (most < length x) ⊎ (length x ≤ most) → (w < 1) ⊎ (1 ≤ w) → (length x < w) ⊎ (w ≤ length x) → (length out < length x) ⊎ (length x ≤ length out) → (k : ℕ) × (row_at (table_rows x w out) k).when
      which (inl h) a b r = (1, h)
      which (inr h) (inl a) b r = (2, (h, inl a))
      which (inr h) (inr a) (inl b) r = (2, (h, inr b))
      which (inr h) (inr a) (inr b) (inl r) = (4, (h, a, b, r))
      which (inr h) (inr a) (inr b) (inr r) = (0, (h, a, b, r))

      gives : Follows (table_rows x w out) (table_answer x w out) (table_leaves x w out)
      gives zero h = rw (long_no x h.0, within_yes 1 (length x) w h.1 h.2, le-ltb (length out) (length x) h.3) (refl, success-front (table x w) out (length x))
      gives (suc zero) h = rw (long_yes x h) (refl, refused-same (table x w) out 1 (length x) refl)
      gives (suc (suc zero)) h = rw (long_no x h.0, within_no 1 (length x) w h.1) (refl, refused-same (table x w) out 2 w refl)
      gives (suc (suc (suc zero))) h = absurd h
      gives (suc (suc (suc (suc zero)))) h = rw (long_no x h.0, within_yes 1 (length x) w h.1 h.2, lt-ltb (length out) (length x) h.3) (refl, refused-same (table x w) out 4 (length x) refl)
      gives (suc (suc (suc (suc (suc k))))) h = absurd h

module _ (x out : List ℕ) where
  pub log_by : By (log_rows x out) (log_answer x out) (log_leaves x out)
  unfolding log_answer log_leaves refuse success refusal
  log_by = goes_by (log_rows x out) _ _ (which (lt_or_ge most (length x)) (lt_or_ge (length out) (move_size * M (length x)))) gives
    where
      which : (most < length x) ⊎ (length x ≤ most) → (length out < move_size * M (length x)) ⊎ (move_size * M (length x) ≤ length out) → (k : ℕ) × (row_at (log_rows x out) k).when
      which (inl h) r = (1, h)
      which (inr h) (inl r) = (4, (h, r))
      which (inr h) (inr r) = (0, (h, r))

      gives : Follows (log_rows x out) (log_answer x out) (log_leaves x out)
      gives zero h = rw (long_no x h.0, le-ltb (length out) (move_size * M (length x)) h.1) (refl, success-front (log x) out (rows move_size (log x)))
      gives (suc zero) h = rw (long_yes x h) (refl, refused-same (log x) out 1 (length x) refl)
      gives (suc (suc zero)) h = absurd h
      gives (suc (suc (suc zero))) h = absurd h
      gives (suc (suc (suc (suc zero)))) h = rw (long_no x h.0, lt-ltb (length out) (move_size * M (length x)) h.1) (refl, refused-same (log x) out 4 (move_size * M (length x)) refl)
      gives (suc (suc (suc (suc (suc k))))) h = absurd h

module _ (x l : List ℕ) (w : ℕ) (out : List ℕ) where
  width_bad : (length x ≡ 0) ⊎ ((w < 1) ⊎ (top_of (length x) < w)) → eqb (length x) 0 || not (within 1 (top_of (length x)) w) ≡ true
  width_bad (inl e) = or_left (eqb (length x) 0) _ (eq-eqb (length x) 0 e)
  width_bad (inr m) = or_right (eqb (length x) 0) _ (ap not (within_no 1 (top_of (length x)) w m))

  width_good : ReplayWidth (length x) w → eqb (length x) 0 || not (within 1 (top_of (length x)) w) ≡ false
  width_good h = rw (ne_eqb (length x) 0 (omega (arith, h.0)), within_yes 1 (top_of (length x)) w h.1 h.2)

  pub replay_by : By (replay_rows x l w out) (replay_answer x l w out) (replay_leaves x l w out)
  unfolding replay_answer replay_leaves refuse success refusal
  replay_by =
      goes_by (replay_rows x l w out) _ _
      (which (lt_or_ge most (length x)) (lt_or_ge (length x) 1) (lt_or_ge w 1) (lt_or_ge (top_of (length x)) w) (lt_or_ge (length out) (length x)) (either (well_formed (length x) l)))
      gives
    where
      which : (most < length x) ⊎ (length x ≤ most) → (length x < 1) ⊎ (1 ≤ length x) → (w < 1) ⊎ (1 ≤ w) → (top_of (length x) < w) ⊎ (w ≤ top_of (length x))
          → (length out < length x) ⊎ (length x ≤ length out) → (well_formed (length x) l ≡ true) ⊎ (well_formed (length x) l ≡ false) → (k : ℕ) × (row_at (replay_rows x l w out) k).when
      which (inl h) n a b r g = (1, h)
      which (inr h) (inl n) a b r g = (2, (h, inl (omega arith)))
      which (inr h) (inr n) (inl a) b r g = (2, (h, inr (inl a)))
      which (inr h) (inr n) (inr a) (inl b) r g = (2, (h, inr (inr b)))
      which (inr h) (inr n) (inr a) (inr b) (inl r) g = (4, (h, (n, a, b), r))
      which (inr h) (inr n) (inr a) (inr b) (inr r) (inl g) = (0, (h, (n, a, b), r, g))
      which (inr h) (inr n) (inr a) (inr b) (inr r) (inr g) = (5, (h, (n, a, b), r, g))

      gives : Follows (replay_rows x l w out) (replay_answer x l w out) (replay_leaves x l w out)
      gives zero h = rw (long_no x h.0, width_good h.1, le-ltb (length out) (length x) h.2, h.3) (refl, success-front (replay x l w) out (length x))
      gives (suc zero) h = rw (long_yes x h) (refl, refused-same (replay x l w) out 1 (length x) refl)
      gives (suc (suc zero)) h = rw (long_no x h.0, width_bad h.1) (refl, refused-same (replay x l w) out 2 w refl)
      gives (suc (suc (suc zero))) h = absurd h
      gives (suc (suc (suc (suc zero)))) h = rw (long_no x h.0, width_good h.1, lt-ltb (length out) (length x) h.2) (refl, refused-same (replay x l w) out 4 (length x) refl)
      gives (suc (suc (suc (suc (suc zero))))) h = rw (long_no x h.0, width_good h.1, le-ltb (length out) (length x) h.2, h.3) (refl, refused-same (replay x l w) out 5 (first_bad (length x) l) refl)
      gives (suc (suc (suc (suc (suc (suc k)))))) h = absurd h

module _ (x : List ℕ) (i p e : ℕ) where
  -- every answer but that of a read too long is a success
  told_success : length x ≤ most → (v : Result Verdict Refusal) → Says x i p e v → claimed_says v ≡ record { number = 0; values = (claimed_says v).values }
  unfolding says verdict_says success both
  told_success h (Ok Verdict.Yes) s = refl
  told_success h (Ok (Verdict.Copies c)) s = refl
  told_success h (Ok (Verdict.Shorter d)) s = refl
  told_success h (Ok Verdict.Outside) s = refl
  told_success h (Err r) s = absurd (omega (arith, s.0))

  pub claim_by : By (claim_rows x i p e) (claim_answer x i p e) []
  unfolding claim_answer says refused_says refusal
  claim_by = goes_by (claim_rows x i p e) _ _ (⊎_elim (λ h. (1, h)) (λ h. (0, h)) (lt_or_ge most (length x))) gives
    where
      gives : Follows (claim_rows x i p e) (claim_answer x i p e) []
      gives zero h = (told_success h (verdict x i p e) ((told_if_so x i p e (verdict x i p e)).0 refl), refl)
      gives (suc zero) h = (ap claimed_says (tells_long x i p e h), refl)
      gives (suc (suc k)) h = absurd h

-- 8, 9, or neither
primer_either : (u : List ℕ) → BadLength u ⊎ (HasForeign u ⊎ GoodPrimer u)
primer_either u = go (lt_or_ge (length u) 1) (lt_or_ge longest (length u)) (lt_or_ge (first_foreign u) (length u))
  where
    go : (length u < 1) ⊎ (1 ≤ length u) → (longest < length u) ⊎ (length u ≤ longest) → (first_foreign u < length u) ⊎ (length u ≤ first_foreign u) → BadLength u ⊎ (HasForeign u ⊎ GoodPrimer u)
    go (inl s) l f = inl (inl s)
    go (inr s) (inl l) f = inl (inr l)
    go (inr s) (inr l) (inl f) = inr (inl (s, l, f))
    go (inr s) (inr l) (inr f) = inr (inr (s, l, f))

module _ (x u out : List ℕ) where
  pub find_by : By (find_rows x u out) (find_answer x u out) (find_leaves x u out)
  unfolding find_answer find_leaves refuse success refusal
  find_by = goes_by (find_rows x u out) _ _ (which (lt_or_ge most (length x)) (primer_either u) (lt_or_ge (length out) (length (places x u)))) gives
    where
      which : (most < length x) ⊎ (length x ≤ most) → BadLength u ⊎ (HasForeign u ⊎ GoodPrimer u) → (length out < length (places x u)) ⊎ (length (places x u) ≤ length out) → (k : ℕ) × (row_at (find_rows x u out) k).when
      which (inl h) p l = (1, h)
      which (inr h) (inl p) l = (8, (h, p))
      which (inr h) (inr (inl p)) l = (9, (h, p))
      which (inr h) (inr (inr p)) (inl l) = (3, (h, p, l))
      which (inr h) (inr (inr p)) (inr l) = (0, (h, p, l))

      gives : Follows (find_rows x u out) (find_answer x u out) (find_leaves x u out)
      gives zero w = rw (long_no x w.0, good-judged u _ w.1.0 w.1.1 w.1.2, le-ltb (length out) (length (places x u)) w.2) (refl, success_list (places x u) out (length (places x u)))
      gives (suc zero) w = rw (long_yes x w) (refl, refused_list (places x u) out 1 (length x) refl refl)
      gives (suc (suc zero)) w = absurd w
      gives (suc (suc (suc zero))) w = rw (long_no x w.0, good-judged u _ w.1.0 w.1.1 w.1.2, lt-ltb (length out) (length (places x u)) w.2) (refl, list_full (places x u) out (length (places x u)))
      gives (suc (suc (suc (suc zero)))) w = absurd w
      gives (suc (suc (suc (suc (suc zero))))) w = absurd w
      gives (suc (suc (suc (suc (suc (suc zero)))))) w = absurd w
      gives (suc (suc (suc (suc (suc (suc (suc zero))))))) w = absurd w
      gives (suc (suc (suc (suc (suc (suc (suc (suc zero)))))))) w = rw (long_no x w.0, length-judged u _ w.1) (refl, refused_list (places x u) out 8 (length u) refl refl)
      gives (suc (suc (suc (suc (suc (suc (suc (suc (suc zero))))))))) w = rw (long_no x w.0, foreign-judged u _ w.1.0 w.1.1 w.1.2) (refl, refused_list (places x u) out 9 (first_foreign u) refl refl)
      gives (suc (suc (suc (suc (suc (suc (suc (suc (suc (suc k)))))))))) w = absurd w

module _ (u out : List ℕ) where
  pub turn_by : By (turn_rows u out) (turn_answer u out) (turn_leaves u out)
  unfolding turn_answer turn_leaves refuse success refusal
  turn_by = goes_by (turn_rows u out) _ _ (which (primer_either u) (lt_or_ge (length out) (length u))) gives
    where
      which : BadLength u ⊎ (HasForeign u ⊎ GoodPrimer u) → (length out < length u) ⊎ (length u ≤ length out) → (k : ℕ) × (row_at (turn_rows u out) k).when
      which (inl p) l = (8, p)
      which (inr (inl p)) l = (9, p)
      which (inr (inr p)) (inl l) = (4, (p, l))
      which (inr (inr p)) (inr l) = (0, (p, l))

      gives : Follows (turn_rows u out) (turn_answer u out) (turn_leaves u out)
      gives zero w = rw (good-judged u _ w.0.0 w.0.1 w.0.2, le-ltb (length out) (length u) w.1) (refl, success-front (reverse_complement u) out (length u))
      gives (suc zero) w = absurd w
      gives (suc (suc zero)) w = absurd w
      gives (suc (suc (suc zero))) w = absurd w
      gives (suc (suc (suc (suc zero)))) w = rw (good-judged u _ w.0.0 w.0.1 w.0.2, lt-ltb (length out) (length u) w.1) (refl, refused-same (reverse_complement u) out 4 (length u) refl)
      gives (suc (suc (suc (suc (suc zero))))) w = absurd w
      gives (suc (suc (suc (suc (suc (suc zero)))))) w = absurd w
      gives (suc (suc (suc (suc (suc (suc (suc zero))))))) w = absurd w
      gives (suc (suc (suc (suc (suc (suc (suc (suc zero)))))))) w = rw (length-judged u _ w) (refl, refused-same (reverse_complement u) out 8 (length u) refl)
      gives (suc (suc (suc (suc (suc (suc (suc (suc (suc zero))))))))) w = rw (foreign-judged u _ w.0 w.1 w.2) (refl, refused-same (reverse_complement u) out 9 (first_foreign u) refl)
      gives (suc (suc (suc (suc (suc (suc (suc (suc (suc (suc k)))))))))) w = absurd w

module _ (l s : List ℕ) where
  pub index_by : By (index_rows l s) (index_answer l s) (index_leaves l s)
  unfolding index_answer index_leaves afterwards refuse success refusal
  index_by = goes_by (index_rows l s) _ _ (which (either (in_order l)) (lt_or_ge (rows entry_size s) (entry_count l))) gives
    where
      which : (in_order l ≡ true) ⊎ (in_order l ≡ false) → (rows entry_size s < entry_count l) ⊎ (entry_count l ≤ rows entry_size s) → (k : ℕ) × (row_at (index_rows l s) k).when
      which (inr f) b = (6, f)
      which (inl t) (inl b) = (7, (t, b))
      which (inl t) (inr b) = (0, (t, b))

      gives : Follows (index_rows l s) (index_answer l s) (index_leaves l s)
      gives zero w = rw (w.0, le-ltb (rows entry_size s) (entry_count l) w.1) (refl, refl)
      gives (suc zero) w = absurd w
      gives (suc (suc zero)) w = absurd w
      gives (suc (suc (suc zero))) w = absurd w
      gives (suc (suc (suc (suc zero)))) w = absurd w
      gives (suc (suc (suc (suc (suc zero))))) w = absurd w
      gives (suc (suc (suc (suc (suc (suc zero)))))) w = rw w (refl, refl)
      gives (suc (suc (suc (suc (suc (suc (suc zero))))))) w = rw (w.0, lt-ltb (rows entry_size s) (entry_count l) w.1) (refl, refl)
      gives (suc (suc (suc (suc (suc (suc (suc (suc k)))))))) w = absurd w

module _ (x : List ℕ) (mode : ℕ) (out s : List ℕ) where
  abbrev lined : ℕ
  lined = line_count x (in_mode x mode)

  abbrev entered : ℕ
  entered = entry_count (lines x (in_mode x mode))

  -- the five ways that the answer goes
  long-goes : most < length x → list_index_answer x mode out s ≡ refusal 1 (length x)
  unfolding list_index_answer refuse
  long-goes h = rw (long_yes x h)

  mode_goes : length x ≤ most → 1 < mode → list_index_answer x mode out s ≡ refusal 2 mode
  unfolding list_index_answer refuse
  mode_goes h m = rw (long_no x h, within_no 0 1 mode (inr m))

  full_goes : length x ≤ most → mode ≤ 1 → rows line_size out < lined → list_index_answer x mode out s ≡ refusal 3 lined
  unfolding list_index_answer refuse
  full_goes h m l = rw (long_no x h, within_yes 0 1 mode (omega arith) m, lt-ltb (rows line_size out) lined l)

  pub short_goes : length x ≤ most → mode ≤ 1 → lined ≤ rows line_size out → rows entry_size s < entered → list_index_answer x mode out s ≡ refusal 7 entered
  unfolding list_index_answer refuse
  short_goes h m l b = rw (long_no x h, within_yes 0 1 mode (omega arith) m, le-ltb (rows line_size out) lined l, lt-ltb (rows entry_size s) entered b)

  pub both-goes : length x ≤ most → mode ≤ 1 → lined ≤ rows line_size out → entered ≤ rows entry_size s → list_index_answer x mode out s ≡ both lined entered
  unfolding list_index_answer refuse
  both-goes h m l b = rw (long_no x h, within_yes 0 1 mode (omega arith) m, le-ltb (rows line_size out) lined l, le-ltb (rows entry_size s) entered b)

  -- a slice that goes by them
  both_by : (made full old left : List ℕ) → ((a : Answer) → list_index_answer x mode out s ≡ a → (a ≡ both lined entered → left ≡ made) × (a ≡ refusal 3 lined → left ≡ full) × ((k v : ℕ) → eqb k 0 ≡ false → eqb k 3 ≡ false → a ≡ refusal k v → left ≡ old))
      → By (both_rows x mode out s made full old) (list_index_answer x mode out s) left
  unfolding both refusal
  both_by made full old left h =
      goes_by (both_rows x mode out s made full old) _ _
      (which (lt_or_ge most (length x)) (lt_or_ge 1 mode) (lt_or_ge (rows line_size out) lined) (lt_or_ge (rows entry_size s) entered))
      gives
    where
      which : (most < length x) ⊎ (length x ≤ most) → (1 < mode) ⊎ (mode ≤ 1) → (rows line_size out < lined) ⊎ (lined ≤ rows line_size out) → (rows entry_size s < entered) ⊎ (entered ≤ rows entry_size s)
          → (k : ℕ) × (row_at (both_rows x mode out s made full old) k).when
      which (inl g) m l b = (1, g)
      which (inr g) (inl m) l b = (2, (g, m))
      which (inr g) (inr m) (inl l) b = (3, (g, m, l))
      which (inr g) (inr m) (inr l) (inl b) = (7, (g, m, l, b))
      which (inr g) (inr m) (inr l) (inr b) = (0, (g, m, l, b))

      gives : Follows (both_rows x mode out s made full old) (list_index_answer x mode out s) left
      gives zero w = let e = both-goes w.0 w.1 w.2 w.3 in (e, (h _ e).0 refl)
      gives (suc zero) w = let e = long-goes w in (e, (h _ e).2 1 (length x) refl refl refl)
      gives (suc (suc zero)) w = let e = mode_goes w.0 w.1 in (e, (h _ e).2 2 mode refl refl refl)
      gives (suc (suc (suc zero))) w = let e = full_goes w.0 w.1 w.2 in (e, (h _ e).1 refl)
      gives (suc (suc (suc (suc zero)))) w = absurd w
      gives (suc (suc (suc (suc (suc zero))))) w = absurd w
      gives (suc (suc (suc (suc (suc (suc zero)))))) w = absurd w
      gives (suc (suc (suc (suc (suc (suc (suc zero))))))) w = let e = short_goes w.0 w.1 w.2 w.3 in (e, (h _ e).2 7 entered refl refl refl)
      gives (suc (suc (suc (suc (suc (suc (suc (suc k)))))))) w = absurd w

  pub list_index_by : By (list_index_rows x mode out s) (list_index_answer x mode out s) (list_index_leaves x mode out s)
  unfolding list_index_leaves list_afterwards afterwards both refusal
  list_index_by = both_by _ _ _ _ (λ a e. (λ q. rw (e, q) refl, λ q. rw (e, q) refl, λ k v y z q. rw (e, q, z, y) refl))

  pub beside_by : By (beside_rows x mode out s) (list_index_answer x mode out s) (list_index_beside x mode out s)
  unfolding list_index_beside afterwards both refusal
  beside_by = both_by _ _ _ _ (λ a e. (λ q. rw (e, q) refl, λ q. rw (e, q) refl, λ k v y z q. rw (e, q, y) refl))
