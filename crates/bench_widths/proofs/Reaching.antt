-- One width shown from the table that the replay of the read's own log gives: the table is the read's, its parts are the read's moves, lines and runs, and list
-- and groups agree, so that the next width is reached. Assumes nothing.
use Prim.Native.Nat.{ℕ, zero, suc, ◌+◌, ◌-◌, ◌*◌, ◌/◌, ◌≤◌, ◌<◌}
use mathlib.Core.Path.{◌≡◌, refl, sym, ap, ◌∙◌}
use mathlib.Core.Logic.{⊎_elim, ◌≢◌}
use mathlib.Core.Bool.{true, false}
use mathlib.Core.List.{List, []}
use native.Mathlib.Omega.{arith}
use lib.ListN.{length}
use lib.Dec.{ltb, eqb}
use borrow.Author.Tests.{lt-ltb, le-ltb, eq-eqb, ne_eqb}
use Rattle.words.specs.Range.{gather}
use Rattle.words.specs.Rows.{rows}
use Rattle.words.specs.Reads.{most, at}
use Rattle.words.specs.Groups.{table, smalls}
use Rattle.words.specs.Lists.{line_size, period_cell, line_at, listed, lines_at, in_mode}
use Rattle.words.specs.Moves.{move_size, width_cell, top_of, top, move_count, moves, log}
use Rattle.words.proofs.Tests.{either}
use Rattle.words.proofs.Sums.{count_le}
use Rattle.words.proofs.Ranges.{gather-same, gather_stop}
use Rattle.words.proofs.Groups.{table-length}
use Rattle.words.proofs.Rows.{rows_times, rows_none}
use Rattle.words.proofs.MoveLayout.{move_some, width_inside}
use Rattle.words.proofs.LineLayout.{line-some, period_inside}
use Rattle.words.proofs.ByPeriod.{rows_at_few}
use Rattle.words.proofs.Lines.{lines-top}
use Rattle.words.proofs.Lists.{line-at-length}
use Rattle.words.proofs.Room.{moves-length}
use Rattle.words_runs.specs.Runs.{run_size, run_period_cell, run_begins, run_at, runs_at}
use Rattle.words_runs.proofs.RunLayout.{run-some, run_period_inside}
use Rattle.words_runs.proofs.Lists.{run-at-length, runs-top}
use Rattle.text_outs.specs.declared.Out.{Out}
use Rattle.bench_agrees.proofs.Agree.{list_and_groups_agree}
use Rattle.bench_agrees.proofs.Parts.{Keyed, keyed_cond, part-starts, part_is, part-next}
use Rattle.bench_widths.proofs.OwnRows.{moves_keyed, lines_keyed, runs_keyed}
use Rattle.bench_widths.specs.Views.{logged, width_view, widths_of}
use Rattle.bench_widths.specs.Reaching.{Own, Reached}
use Rattle.bench_shows.specs.Collecting.{Collects}
use Rattle.bench_shows.specs.Places.{Brief, moves_from, lines_from, runs_from, first_differ, Shown}
use Rattle.bench_shows.specs.declared.Place.{Place}

module _ (x : List ℕ) where
  logged_keyed : (w : ℕ) → Keyed move_size width_cell width_inside w (logged x w)
  unfolding logged
  logged_keyed w = keyed_cond move_size width_cell width_inside w (ltb w (top x)) (moves x w) (moves_keyed x w)

  logged-below : (w : ℕ) → w < top x → moves x w ≡ logged x w
  unfolding logged
  logged-below w h = rw (lt-ltb w (top x) h)

  logged_above : (w : ℕ) → top x ≤ w → logged x w ≡ []
  unfolding logged
  logged_above w h = rw (le-ltb w (top x) h)

  -- the log, by the widths that are shown
  log-logged : log x ≡ gather (logged x) (top x) 1
  unfolding log
  log-logged =
      gather-same (moves x) (logged x) (top x - 1) 1 (λ w a b. logged-below w (omega arith))
      ∙ sym (gather_stop (logged x) (top x - 1) (top x) 1 (omega arith) (λ w a b. logged_above w (omega arith)))

  -- a read that is not empty is shown up to top
  pub widths_top : 1 ≤ length x → widths_of (length x) ≡ top x
  unfolding widths_of top
  widths_top h = rw (ne_eqb (length x) 0 (omega arith))

  pub widths_none : length x ≡ 0 → widths_of (length x) ≡ 0
  unfolding widths_of
  widths_none h = rw (eq-eqb (length x) 0 h)

  pub widths_some : (w : ℕ) → 1 ≤ w → w ≤ widths_of (length x) → (1 ≤ length x) × (w ≤ top x)
  widths_some w a b = go (length x) refl
    where
      go : (n : ℕ) → length x ≡ n → (1 ≤ length x) × (w ≤ top x)
      go zero e = absurd (omega (arith, widths_none e))
      go (suc n) e = (omega arith, omega (arith, widths_top (omega arith)))

-- how the code counts the widths
pub widths_one : (n : ℕ) → n ≡ 1 → 1 ≡ widths_of n
unfolding widths_of top_of
widths_one n e = rw e

pub widths_half : (n : ℕ) → n ≢ 1 → n / 2 ≡ widths_of n
unfolding widths_of top_of
widths_half zero ne = refl
widths_half (suc n) ne = rw (ne_eqb (suc n) 0 (omega arith)) (omega arith)

pub widths_few : (n : ℕ) → n ≤ most → widths_of n ≤ 500
unfolding widths_of top_of
widths_few zero h = omega arith
widths_few (suc n) h = rw (ne_eqb (suc n) 0 (omega arith)) (omega arith)

-- a width of a read has at most one move, one line and one run for each position
few_moves : (x : List ℕ) (w : ℕ) → length x ≤ most → rows move_size (logged x w) ≤ most
unfolding logged move_count
few_moves x w few =
    ⊎_elim
    (λ (t : ltb w (top x) ≡ true).
    rw t
    (omega (
      arith,
      rows_times move_size (moves x w) _ move_some (moves-length x w),
      table-length x w,
      count_le (λ j. eqb (at (smalls x w) (at (table x w) j)) 1) (length (table x w) - 1) 2,
    )))
    (λ (t : ltb w (top x) ≡ false). rw t (omega (arith, rows_none move_size)))
    (either (ltb w (top x)))

few_lines : (x : List ℕ) (p : ℕ) → length x ≤ most → rows line_size (lines_at x (in_mode x 0) p) ≤ most
unfolding lines_at
few_lines x p few = omega (arith, few, rows_at_few line_size (length x) line-some (listed x (in_mode x 0)) (line_at x) (line-at-length x) p)

few_runs : (x : List ℕ) (p : ℕ) → length x ≤ most → rows run_size (runs_at x p) ≤ most
unfolding runs_at
few_runs x p few = omega (arith, few, rows_at_few run_size (length x) run-some (run_begins x) (run_at x) (run-at-length x) p)

-- before the first width
pub reached-first : (x : List ℕ) (o : Out) → Reached x 1 (record { moved = 0; listed = 0; ran = 0; differ = 0; out = o })
unfolding gather
reached-first x o = record { low = omega arith; high = omega arith; moved = omega arith; listed = omega arith; ran = omega arith; agree = refl }

module _ {x l m s : List ℕ} (own : Own x l m s) {w : ℕ} {p : Place} (r : Reached x w p) (here : w ≤ widths_of (length x)) where
  below : w ≤ top x
  below = (widths_some x w r.low here).1

  log_is : l ≡ gather (logged x) (top x) 1
  log_is = own.log ∙ log-logged x

  list_is : m ≡ gather (lines_at x (in_mode x 0)) (top x) 1
  list_is = own.list ∙ lines-top x (in_mode x 0)

  runs_are : s ≡ gather (runs_at x) (top x) 1
  runs_are = own.runs ∙ runs-top x

  -- the places reached lie in the log, in the list and in the runs
  pub moved_inside : p.moved ≤ rows move_size l
  moved_inside = part-starts move_size width_cell width_inside (logged x) (logged_keyed x) (top x) w p.moved r.low below r.moved log_is

  pub listed-inside : p.listed ≤ rows line_size m
  listed-inside = part-starts line_size period_cell period_inside (lines_at x (in_mode x 0)) (lines_keyed x) (top x) w p.listed r.low below r.listed list_is

  pub ran-inside : p.ran ≤ rows run_size s
  ran-inside = part-starts run_size run_period_cell run_period_inside (runs_at x) (runs_keyed x) (top x) w p.ran r.low below r.ran runs_are

  moves-part : moves_from l w p ≡ logged x w
  unfolding moves_from
  moves-part = part_is move_size width_cell width_inside (logged x) (logged_keyed x) (top x) w p.moved r.low below r.moved log_is

  lines-part : lines_from m w p ≡ lines_at x (in_mode x 0) w
  unfolding lines_from
  lines-part = part_is line_size period_cell period_inside (lines_at x (in_mode x 0)) (lines_keyed x) (top x) w p.listed r.low below r.listed list_is

  runs-part : runs_from s w p ≡ runs_at x w
  unfolding runs_from
  runs-part = part_is run_size run_period_cell run_period_inside (runs_at x) (runs_keyed x) (top x) w p.ran r.low below r.ran runs_are

  pub brief_own : (t : List ℕ) → length t ≤ most → Brief t (moves_from l w p) (lines_from m w p) (runs_from s w p)
  brief_own t h =
      record {
        names = h;
        movers = rw moves-part (few_moves x w own.few);
        starts = rw lines-part (few_lines x w own.few);
        firsts = rw runs-part (few_runs x w own.few);
      }

  -- the places after the rows of this width are those after the rows of all widths up to it
  moves-end : move_size * (p.moved + rows move_size (moves_from l w p)) ≡ length (gather (logged x) w 1)
  unfolding moves_from
  moves-end = part-next move_size width_cell width_inside (logged x) (logged_keyed x) (top x) w p.moved r.low below r.moved log_is

  lines_end : line_size * (p.listed + rows line_size (lines_from m w p)) ≡ length (gather (lines_at x (in_mode x 0)) w 1)
  unfolding lines_from
  lines_end = part-next line_size period_cell period_inside (lines_at x (in_mode x 0)) (lines_keyed x) (top x) w p.listed r.low below r.listed list_is

  runs-end : run_size * (p.ran + rows run_size (runs_from s w p)) ≡ length (gather (runs_at x) w 1)
  unfolding runs_from
  runs-end = part-next run_size run_period_cell run_period_inside (runs_at x) (runs_keyed x) (top x) w p.ran r.low below r.ran runs_are

  module _ {t buf after : List ℕ} {q : Place} (e : t ≡ table x w) (shown : Shown t l m s w buf p after q) where
    own-shown : Shown (table x w) l m s w buf p after q
    own-shown = rw e at shown

    pub width_collects : Collects buf p.out (width_view x w) after q.out
    unfolding width_view
    width_collects = rw (moves-part, lines-part, runs-part) at own-shown.collects

    still_agree : q.differ ≡ 0
    unfolding first_differ
    still_agree = own-shown.differ ∙ rw (lines-part, list_and_groups_agree x w r.low, r.agree)

    -- the rows passed are those of one width more
    passed : (c k end : ℕ) (f : ℕ → List ℕ) → k ≡ end → c * end ≡ length (gather f w 1) → c * k ≡ length (gather f (w + 1 - 1) 1)
    passed c k end f a b = let v : w ≡ w + 1 - 1 = omega arith in ap (λ (i : ℕ). c * i) a ∙ b ∙ ap (λ (i : ℕ). length (gather f i 1)) v

    pub reached-next : Reached x (w + 1) q
    reached-next =
        record {
          low = omega arith;
          high = omega arith;
          moved = passed move_size _ _ (logged x) own-shown.moved moves-end;
          listed = passed line_size _ _ (lines_at x (in_mode x 0)) own-shown.listed lines_end;
          ran = passed run_size _ _ (runs_at x) own-shown.ran runs-end;
          agree = still_agree;
        }
