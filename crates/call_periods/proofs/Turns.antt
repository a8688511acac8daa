-- A loop over the starts of a period: the rows of all places up to the last one that was taken are written, for where there is no start there is no
-- row, and no count is asked of. Assumes nothing.
use Prim.Native.Nat.{ℕ, suc, ◌+◌, ◌-◌, ◌≤◌, ◌<◌}
use mathlib.Core.Path.{◌≡◌, refl, sym, ◌∙◌}
use mathlib.Core.Logic.{⊎_elim, ◌≢◌}
use mathlib.Core.List.{List, []}
use native.Mathlib.Omega.{arith}
use lib.ListN.{length}
use lib.Dec.{eqb}
use borrow.Author.Tests.{eqb-true, eqb-false}
use Rattle.std.specs.Prelude.{Option, Some, None, sum}
use Rattle.words.specs.Range.{gather}
use Rattle.words.specs.Reads.{at}
use Rattle.words.proofs.Tests.{either}
use Rattle.row_cells.specs.Listing.{Adds}
use Rattle.row_cells.proofs.Adding.{adds_none, adds_next}
use Rattle.slots.specs.Slots.{put}
use Rattle.step2_bits.specs.Sets.{Empty, First, LeastTaken, Where}
use Rattle.bits.proofs.Digits.{one_zero}
use Rattle.step2_bits.proofs.Emptying.{After, after_none, taken_on, between, taken-is, gather_before, taken, gather_all, taken_less}
use Rattle.call_periods.specs.declared.Sight.{Sight}
use Rattle.call_periods.specs.Periods.{row_size, row_in, rows_in, Kept}
use Rattle.call_periods.proofs.Rows.{row_in_none, kept_none, kept_on}

-- what a loop over the starts has done once those up to `done` are taken: the rows of these places are written, and their counts are kept
pub record Turn (dist : List ℕ) (sight : Sight) (p prior : ℕ) (old : List ℕ) (k : ℕ) (out count rest : List ℕ) : Type 0 where
  pub all : List ℕ
  pub starts : Where dist p all
  pub done : ℕ
  pub inside : done ≤ 1000
  pub after : After all done rest
  pub same : length out ≡ length old
  pub rows : Adds (row_size sight) prior k (gather (row_in dist sight p) done 1) old out
  pub few : k ≤ prior + done
  pub kept : Kept dist sight p (done + 1) count

-- and the least of those that are left is taken out as well, for the next turn
pub record Ahead (dist : List ℕ) (sight : Sight) (p prior : ℕ) (old : List ℕ) (k : ℕ) (out count : List ℕ) (next : Option ℕ) (rest : List ℕ) : Type 0 where
  pub left : List ℕ
  pub turn : Turn dist sight p prior old k out count left
  pub taken : LeastTaken left next rest

-- how many places are to come
pub to_come : Option ℕ → List ℕ → ℕ
to_come None rest = sum rest
to_come (Some s) rest = suc (sum rest)

pub to_come_less : (s : ℕ) (f : List ℕ) → length f ≡ 1000 → (next : Option ℕ) (rest : List ℕ) → LeastTaken f next rest → to_come next rest < to_come (Some s) f
unfolding to_come
to_come_less s f l None rest L = rw L.1 (omega arith)
to_come_less s f l (Some i) rest L = omega (arith, taken_less f l i L.0 L.1 rest L.2)

module _ (dist : List ℕ) (sight : Sight) (p prior : ℕ) (old : List ℕ) where
  -- none is taken yet
  pub turn-first : (count f : List ℕ) → length f ≡ 1000 → Where dist p f → length count ≡ 1000 → Turn dist sight p prior old prior old count f
  unfolding gather
  turn-first count f long W c =
      record {
        all = f;
        starts = W;
        done = 0;
        inside = omega arith;
        after = after_none f long;
        same = refl;
        rows = adds_none (row_size sight) prior [] old refl;
        few = omega arith;
        kept = kept_none dist sight p count c;
      }

  module _ (k : ℕ) (out count f : List ℕ) (T : Turn dist sight p prior old k out count f) where
    no_start : (j : ℕ) → 1 ≤ j → j ≤ 1000 → at T.all j ≡ 0 → at dist j ≢ p
    no_start j a b z e = one_zero (sym (T.starts.hit j a b e) ∙ z)

    no_row : (j : ℕ) → 1 ≤ j → j ≤ 1000 → at T.all j ≡ 0 → row_in dist sight p j ≡ []
    no_row j a b z = row_in_none dist sight p j (no_start j a b z)

    pub turn_few : k ≤ prior + 1000
    turn_few = omega (arith, T.few, T.inside)

    -- i is taken
    module _ (i : ℕ) (low : 1 ≤ i) (F : First f i) where
      pub turn_start : at dist i ≡ p
      turn_start =
          ⊎_elim
          (λ e. eqb-true (at dist i) p e)
          (λ e. absurd (one_zero (sym (taken-is T.all T.done f T.after i low F) ∙ T.starts.miss i low F.high (eqb-false (at dist i) p e))))
          (either (eqb (at dist i) p))

      pub turn-kept : Kept dist sight p i count
      turn-kept =
          kept_on dist sight p (T.done + 1) i count
          (λ j a b. no_start j (omega (arith, a)) (omega (arith, b, F.high)) (between T.all T.done f T.after i low F j (omega (arith, a)) (omega (arith, b))))
          T.kept

      -- and its row is written
      pub turn-next : (l : ℕ) (out' count' g : List ℕ) → Adds (row_size sight) k l (row_in dist sight p i) out out' → length out' ≡ length out → l ≤ k + 1
          → Kept dist sight p (i + 1) count' → g ≡ put f i 0 → Turn dist sight p prior old l out' count' g
      turn-next l out' count' g L s b C e =
          let q : i - 1 + 1 ≡ i = omega arith in
          let before = gather_before T.all T.done f T.after i low F (row_in dist sight p) no_row in
          record {
            all = T.all;
            starts = T.starts;
            done = i;
            inside = F.high;
            after = taken T.all T.done f T.after i low F g e;
            same = s ∙ T.same;
            rows = rw q at (adds_next (row_size sight) (row_in dist sight p) (i - 1) prior k l old out out' (rw before T.rows) (rw q L));
            few = omega (arith, b, T.few, taken_on T.all T.done f T.after i low F);
            kept = C;
          }

    -- there is no more
    pub turn_last : Empty f → Adds (row_size sight) prior k (rows_in dist sight p) old out
    unfolding rows_in
    turn_last E = rw (gather_all T.all T.done f T.after T.inside E (row_in dist sight p) no_row) at T.rows
