-- A list of rows of c numbers that is gathered by width, each row holding its width as number j: the part that the code cuts out for a width
-- is that width's own list, whole. One law for a log, a list and the runs. Assumes nothing.
use Prim.Native.Nat.{ℕ, zero, suc, ◌+◌, ◌-◌, ◌*◌, ◌≤◌, ◌<◌}
use mathlib.Core.Path.{◌≡◌, refl, sym, ap, ◌∙◌}
use mathlib.Core.Logic.{⊎_elim}
use mathlib.Core.Bool.{Bool, true, false, cond}
use mathlib.Core.List.{List, [], ◌++◌}
use native.Mathlib.Omega.{arith}
use native.Mathlib.Nat.{mul-le-mul_left}
use lib.ListN.{length, get_or, take, drop, length-append, get_or-append}
use lib.Seq.{get_or-append-add, drop_at, take_at}
use Rattle.words.specs.Range.{gather}
use Rattle.words.specs.Rows.{rows, cell, part}
use Rattle.words.proofs.Tests.{lt_or_ge}
use Rattle.words.proofs.Ranges.{gather_parts, gather_more}
use Rattle.words.proofs.Rows.{Full, rows_none, rows_times, rows_append, full_append, full_gather}
use Rattle.words.proofs.Searches.{Missed, first_ended, first_hit}
use Rattle.bench_agrees.specs.Parts.{differs, part_end, part_from}
use Rattle.bench_agrees.proofs.Rows.{differs_yes, differs_no}

-- the lists of the widths before w, and of those after it up to n
abbrev before : (ℕ → List ℕ) → ℕ → List ℕ
before f w = gather f (w - 1) 1

abbrev behind : (ℕ → List ℕ) → ℕ → ℕ → List ℕ
behind f n w = gather f (n - w) (suc w)

gather-at : (f : ℕ → List ℕ) (n w : ℕ) → 1 ≤ w → w ≤ n → gather f n 1 ≡ before f w ++ (f w ++ behind f n w)
unfolding gather
gather-at f n w low high =
    let e : n ≡ w - 1 + suc (n - w) = omega arith in
    let g : 1 + (w - 1) ≡ w = omega arith in
    ap (λ (v : ℕ). gather f v 1) e ∙ gather_parts f (w - 1) (suc (n - w)) 1 ∙ rw g

gather-to : (f : ℕ → List ℕ) (w : ℕ) → 1 ≤ w → gather f w 1 ≡ before f w ++ f w
gather-to f w low =
    let e : w ≡ suc (w - 1) = omega arith in
    let g : 1 + (w - 1) ≡ w = omega arith in
    ap (λ (v : ℕ). gather f v 1) e ∙ gather_more f (w - 1) 1 ∙ rw g

module _ (c j : ℕ) (inside : j < c) where
  rows-joined : (l m : List ℕ) → Full c l → rows c (l ++ m) ≡ rows c l + rows c m
  rows-joined l m f = rows_append c (omega (arith, inside)) l m f

  cell-left : (l m : List ℕ) (k : ℕ) → Full c l → k < rows c l → cell c (l ++ m) k j ≡ cell c l k j
  unfolding cell
  cell-left l m k f h = get_or-append l m 0 (c * k + j) (omega (arith, f, inside, mul-le-mul_left c h))

  cell_right : (l m : List ℕ) (k i : ℕ) → Full c l → i ≡ rows c l + k → cell c (l ++ m) i j ≡ cell c m k j
  unfolding cell
  cell_right l m k i f q =
      let e : c * i + j ≡ length l + (c * k + j) = omega (arith, f, ap (λ (v : ℕ). c * v) q) in
      ap (λ (v : ℕ). get_or (l ++ m) v 0) e ∙ get_or-append-add l m (c * k + j) 0

  -- nothing is left over, and number j of every row is w
  pub record Keyed (w : ℕ) (l : List ℕ) : Type 0 where
    pub full : Full c l
    pub key : (k : ℕ) → k < rows c l → cell c l k j ≡ w

  keyed_none : (w : ℕ) → Keyed w []
  keyed_none w = record { full = rw (rows_none c) (omega arith); key = λ k h. absurd (omega (arith, h, rows_none c)) }

  keyed_append : (w : ℕ) (l m : List ℕ) → Keyed w l → Keyed w m → Keyed w (l ++ m)
  keyed_append w l m a b =
      record {
        full = full_append c (omega (arith, inside)) l m a.full b.full;
        key = λ k h.
            ⊎_elim
            (λ (d : k < rows c l). cell-left l m k a.full d ∙ a.key k d)
            (λ (d : rows c l ≤ k).
            cell_right l m (k - rows c l) k a.full (omega arith) ∙ b.key (k - rows c l) (omega (arith, h, rows-joined l m a.full)))
            (lt_or_ge k (rows c l));
      }

  pub keyed_gather : (w : ℕ) (f : ℕ → List ℕ) (d i : ℕ) → ((k : ℕ) → Keyed w (f k)) → Keyed w (gather f d i)
  unfolding gather
  keyed_gather w f zero i h = keyed_none w
  keyed_gather w f (suc d) i h = keyed_append w (f i) (gather f d (suc i)) (h i) (keyed_gather w f d (suc i) h)

  pub keyed_cond : (w : ℕ) (b : Bool) (l : List ℕ) → Keyed w l → Keyed w (cond b l [])
  keyed_cond w true l h = h
  keyed_cond w false l h = keyed_none w

  module _ (f : ℕ → List ℕ) (own : (w : ℕ) → Keyed w (f w)) where
    gather_full : (d i : ℕ) → Full c (gather f d i)
    gather_full d i = full_gather c (omega (arith, inside)) f d i (λ k a b. (own k).full)

    -- the rows of the widths from i on have no smaller one
    gather_low : (d i k : ℕ) → k < rows c (gather f d i) → i ≤ cell c (gather f d i) k j
    unfolding gather
    gather_low zero i k h = absurd (omega (arith, h, rows_none c))
    gather_low (suc d) i k h =
        ⊎_elim
        (λ (b : k < rows c (f i)). omega (arith, cell-left (f i) (gather f d (suc i)) k (own i).full b, (own i).key k b))
        (λ (b : rows c (f i) ≤ k).
        let m : ℕ = k - rows c (f i) in
        omega (
          arith,
          cell_right (f i) (gather f d (suc i)) m k (own i).full (omega arith),
          gather_low d (suc i) m (omega (arith, h, rows-joined (f i) (gather f d (suc i)) (own i).full)),
        ))
        (lt_or_ge k (rows c (f i)))

    module _ (n w from : ℕ) (low : 1 ≤ w) (high : w ≤ n) (start : c * from ≡ length (before f w)) where
      rows_before : rows c (before f w) ≡ from
      rows_before = rows_times c (before f w) from (omega (arith, inside)) (sym start)

      rows_all : rows c (gather f n 1) ≡ from + rows c (f w) + rows c (behind f n w)
      rows_all =
          ap (rows c) (gather-at f n w low high)
          ∙ omega (
            arith,
            rows-joined (before f w) (f w ++ behind f n w) (gather_full (w - 1) 1),
            rows-joined (f w) (behind f n w) (own w).full,
            rows_before,
          )

      cell-after : (k i : ℕ) → i ≡ from + k → cell c (gather f n 1) i j ≡ cell c (f w ++ behind f n w) k j
      cell-after k i e =
          ap (λ (l : List ℕ). cell c l i j) (gather-at f n w low high)
          ∙ cell_right (before f w) (f w ++ behind f n w) k i (gather_full (w - 1) 1) (omega (arith, e, rows_before))

      missed : Missed (differs c (gather f n 1) j w) from (from + rows c (f w))
      missed k a b =
          let m : ℕ = k - from in
          differs_no c (gather f n 1) j k refl
          (cell-after m k (omega arith) ∙ cell-left (f w) (behind f n w) m (own w).full (omega arith) ∙ (own w).key m (omega arith))

      -- the row after them is of a later width
      next_above : 0 < rows c (behind f n w) → w < cell c (gather f n 1) (from + rows c (f w)) j
      next_above l =
          omega (
            arith,
            cell-after (rows c (f w)) (from + rows c (f w)) refl,
            cell_right (f w) (behind f n w) 0 (rows c (f w)) (own w).full (omega arith),
            gather_low (n - w) (suc w) 0 l,
          )

      end_found : part_end c (gather f n 1) j w from ≡ from + rows c (f w)
      unfolding part_end
      end_found =
          let p = differs c (gather f n 1) j w in
          let d = rows c (gather f n 1) - from in
          ⊎_elim
          (λ (l : 0 < rows c (behind f n w)).
          first_hit p d from (from + rows c (f w)) missed (omega arith) (omega (arith, rows_all))
          (differs_yes c (gather f n 1) j (from + rows c (f w)) refl (λ q. omega (arith, q, next_above l))))
          (λ l. first_ended p d from (from + rows c (f w)) missed (omega (arith, rows_all)))
          (lt_or_ge 0 (rows c (behind f n w)))

      ended : c * part_end c (gather f n 1) j w from ≡ length (gather f w 1)
      ended =
          ap (λ (v : ℕ). c * v) end_found
          ∙ omega (arith, start, (own w).full, length-append (before f w) (f w), ap length (gather-to f w low))

      cut : part_from c (gather f n 1) j w from ≡ f w
      unfolding part_from part
      cut =
          let d : ℕ = c * part_end c (gather f n 1) j w from - c * from in
          let size : length (f w) ≡ d = omega (arith, start, ended, length-append (before f w) (f w), ap length (gather-to f w low)) in
          ap (λ (l : List ℕ). take d (drop (c * from) l)) (gather-at f n w low high)
          ∙ ap (take d) (drop_at (before f w) (f w ++ behind f n w) (c * from) (sym start))
          ∙ take_at (f w) (behind f n w) d size

      module _ {l : List ℕ} (is : l ≡ gather f n 1) where
        -- the place where the rows of the width start lies in the list,
        pub part-starts : from ≤ rows c l
        part-starts = rw is (omega (arith, rows_all))

        -- what they are,
        pub part_is : part_from c l j w from ≡ f w
        part_is = rw is cut

        -- and where the next ones start
        pub part-next : c * (from + rows c (part_from c l j w from)) ≡ length (gather f w 1)
        part-next = rw part_is (omega (arith, start, (own w).full, length-append (before f w) (f w), ap length (gather-to f w low)))
