-- The rows after one move, row by row, seen from the rows a before it: i is out of its group k, where REST and TOUCHED may have been set before, and
-- begins a part or joins one. Assumes nothing.
use Prim.Native.Nat.{ℕ, suc, ◌+◌, ◌-◌, ◌≤◌, ◌<◌}
use mathlib.Core.Path.{◌≡◌, refl, sym, ap, ◌∙◌}
use mathlib.Core.Logic.{⊎_elim}
use mathlib.Core.Bool.{false, cond}
use mathlib.Core.List.{List, [], ◌∷◌}
use native.Mathlib.Omega.{arith}
use lib.Dec.{eqb}
use borrow.Author.Tests.{eqb-true}
use Rattle.words.specs.Reads.{at}
use Rattle.words.proofs.Tests.{either}
use Rattle.slots.specs.Slots.{put}
use Rattle.slots.proofs.Laws.{some_is, some-none}
use Rattle.step1_rows.specs.Rows.{row, put_at, Long, among, Only, NAME, SIZE, PREV, DIST, HEAD, AFTER, QUE, PART, TAIL, REST, MANY, TOUCHED}
use Rattle.step1_rows.proofs.Laws.{row_same, row_other, long-put, only_row}
use Rattle.step3_lists.specs.Waits.{WaitingFor}
use Rattle.step3_lists.specs.Filed.{Changed}
use Rattle.step3_lists.proofs.Changing.{waiting_for_rows}
use Rattle.step6_leave.specs.Links.{joined, bridged, put_ahead}
use Rattle.step6_leave.specs.Gone.{rest_after, Gone, begun_at, counted_at}
use Rattle.step7_moves.specs.Relink.{dist_after, prev_after}
use Rattle.step7_moves.specs.Parted.{Stepped}

-- row s, which was l, once v is stored at place i of row r
abbrev pub put_row : ℕ → ℕ → ℕ → ℕ → List ℕ → List ℕ
put_row s r i v l = cond (eqb r s) (put l i v) l

pub row_put : (a : List (List ℕ)) (r i v s : ℕ) → Long a → r < 12 → row (put_at a r i v) s ≡ put_row s r i v (row a s)
row_put a r i v s L h =
    ⊎_elim (λ e. let d = eqb-true r s e in rw e (rw (← d) (row_same a r i v L h))) (λ e. rw e (row_other a r i v s e)) (either (eqb r s))

module _ (a : List (List ℕ)) {w : ℕ} {f b : List (List ℕ)} {k i : ℕ} (v : ℕ) (L : Long f) (same : Only (REST ∷ TOUCHED ∷ []) a f) (G : Gone w (put_at (put_at f TAIL k i) SIZE k v) b k i) where
  -- the rows that i's group is left from
  set-row : (s : ℕ) → row (put_at (put_at f TAIL k i) SIZE k v) s ≡ put_row s SIZE k v (put_row s TAIL k i (row f s))
  set-row s = rw (row_put (put_at f TAIL k i) SIZE k v s (long-put f TAIL k i L) (omega arith), row_put f TAIL k i s L (omega arith)) refl

  kept_row : (s : ℕ) → among (REST ∷ TOUCHED ∷ []) s ≡ false → row (put_at (put_at f TAIL k i) SIZE k v) s ≡ put_row s SIZE k v (put_row s TAIL k i (row a s))
  kept_row s h = set-row s ∙ ap (λ (l : List ℕ). put_row s SIZE k v (put_row s TAIL k i l)) (only_row (REST ∷ TOUCHED ∷ []) a f s same h)

  -- the rows once i is out
  pub out_row : (s : ℕ) → among (PREV ∷ REST ∷ DIST ∷ HEAD ∷ AFTER ∷ []) s ≡ false → among (REST ∷ TOUCHED ∷ []) s ≡ false → row b s ≡ put_row s SIZE k v (put_row s TAIL k i (row a s))
  out_row s h e = only_row (PREV ∷ REST ∷ DIST ∷ HEAD ∷ AFTER ∷ []) (put_at (put_at f TAIL k i) SIZE k v) b s G.only h ∙ kept_row s e

  pub out_dist : row b DIST ≡ put (bridged (row a DIST) (row a PREV) i) i 0
  unfolding among
  out_dist = G.dist ∙ rw (kept_row DIST refl, kept_row PREV refl) refl

  -- who waits, if the distance of the position before i does not become too large
  pub out_waits : {last : ℕ → ℕ} → WaitingFor (suc w) last a
      → (1 ≤ at (row a PREV) i → 1 ≤ last (at (row a PREV) i) → joined (at (row a DIST) (at (row a PREV) i)) (at (row a DIST) i) ≤ last (at (row a PREV) i)) → WaitingFor (suc w) last b
  unfolding among
  out_waits {last} W m =
      G.waits last (waiting_for_rows a (put_at (put_at f TAIL k i) SIZE k v) (kept_row DIST refl) (kept_row HEAD refl) (kept_row AFTER refl) W)
      (rw (kept_row DIST refl, kept_row PREV refl) m)

  out_prev : row b PREV ≡ put_ahead (row a PREV) i (at (row a DIST) i) (at (row a PREV) i)
  unfolding among
  out_prev = G.prev ∙ rw (kept_row DIST refl, kept_row PREV refl) refl

  out_rest : row b REST ≡ rest_after (row f REST) k i (at (row a PREV) i) (at (row a DIST) i)
  unfolding among
  out_rest = G.rest ∙ rw (set-row REST, kept_row DIST refl, kept_row PREV refl) refl

  out_touched : row b TOUCHED ≡ row f TOUCHED
  unfolding among
  out_touched = only_row (PREV ∷ REST ∷ DIST ∷ HEAD ∷ AFTER ∷ []) (put_at (put_at f TAIL k i) SIZE k v) b TOUCHED G.only refl ∙ set-row TOUCHED

  -- ---- the rows once i begins part number h

  module _ (h : ℕ) where
    que : Long (put_at b QUE h i)
    que = long-put b QUE h i G.long

    part : Long (put_at (put_at b QUE h i) PART k i)
    part = long-put (put_at b QUE h i) PART k i que

    many : Long (put_at (put_at (put_at b QUE h i) PART k i) MANY i 1)
    many = long-put (put_at (put_at b QUE h i) PART k i) MANY i 1 part

    begun : (s : ℕ) → row (begun_at b h k i) s ≡ put_row s PREV i 0 (put_row s MANY i 1 (put_row s PART k i (put_row s QUE h i (row b s))))
    unfolding begun_at
    begun s =
        rw (
          row_put (put_at (put_at (put_at b QUE h i) PART k i) MANY i 1) PREV i 0 s many (omega arith),
          row_put (put_at (put_at b QUE h i) PART k i) MANY i 1 s part (omega arith),
          row_put (put_at b QUE h i) PART k i s que (omega arith),
          row_put b QUE h i s G.long (omega arith),
        ) refl

    begun-long : Long (begun_at b h k i)
    unfolding begun_at
    begun-long = long-put (put_at (put_at (put_at b QUE h i) PART k i) MANY i 1) PREV i 0 many

    pub begun_waits : {last : ℕ → ℕ} → WaitingFor (suc w) last b → WaitingFor (suc w) last (begun_at b h k i)
    begun_waits W = waiting_for_rows b (begun_at b h k i) (begun DIST) (begun HEAD) (begun AFTER) W

  -- ---- the rows once it counts in the part of j

  module _ (j : ℕ) where
    abbrev y : ℕ
    y = at (row b PART) k

    abbrev z : ℕ
    z = at (row b MANY) y + 1

    counted : (s : ℕ) → row (counted_at b k j i) s ≡ put_row s PREV i j (put_row s MANY y z (row b s))
    unfolding counted_at
    counted s = rw (row_put (put_at b MANY y z) PREV i j s (long-put b MANY y z G.long) (omega arith), row_put b MANY y z s G.long (omega arith)) refl

    pub counted_waits : {last : ℕ → ℕ} → WaitingFor (suc w) last b → WaitingFor (suc w) last (counted_at b k j i)
    counted_waits W = waiting_for_rows b (counted_at b k j i) (counted DIST) (counted HEAD) (counted AFTER) W

  module _ (size : v ≡ at (row a SIZE) k - 1) where
    -- i begins part number h
    pub stepped_begin : (h : ℕ) → Stepped a (begun_at b h k i) k i 0 (row f REST) (put (row a PART) k i) (put (row a MANY) i 1) (put (row a QUE) h i) (row f TOUCHED)
    unfolding among dist_after prev_after
    stepped_begin h =
        record {
          long = begun-long h;
          names = begun h NAME ∙ out_row NAME refl refl;
          dist = begun h DIST ∙ out_dist ∙ sym (some-none (put (bridged (row a DIST) (row a PREV) i) i 0) 0 (i - 0) refl);
          prev = begun h PREV ∙ rw out_prev refl;
          rests = begun h REST ∙ out_rest;
          tails = begun h TAIL ∙ out_row TAIL refl refl;
          sizes = begun h SIZE ∙ out_row SIZE refl refl ∙ rw size refl;
          parts = begun h PART ∙ rw (out_row PART refl refl) refl;
          counts = begun h MANY ∙ rw (out_row MANY refl refl) refl;
          queue = begun h QUE ∙ rw (out_row QUE refl refl) refl;
          groups = begun h TOUCHED ∙ out_touched;
        }

    -- i joins the part of j
    pub stepped_join : {c : List (List ℕ)} {j : ℕ} → 1 ≤ j → Changed w (counted_at b k j i) c j (i - j)
        → Stepped a c k i j (row f REST) (row a PART) (put (row a MANY) (at (row a PART) k) (at (row a MANY) (at (row a PART) k) + 1)) (row a QUE) (row f TOUCHED)
    unfolding among dist_after prev_after
    stepped_join {c} {j} l R =
        record {
          long = R.long;
          names = merged NAME refl ∙ out_row NAME refl refl;
          dist = R.dist ∙ rw (counted j DIST, out_dist) (sym (some_is (put (bridged (row a DIST) (row a PREV) i) i 0) j (i - j) l));
          prev = merged PREV refl ∙ rw out_prev refl;
          rests = merged REST refl ∙ out_rest;
          tails = merged TAIL refl ∙ out_row TAIL refl refl;
          sizes = merged SIZE refl ∙ out_row SIZE refl refl ∙ rw size refl;
          parts = merged PART refl ∙ out_row PART refl refl;
          counts = merged MANY refl ∙ rw (out_row PART refl refl, out_row MANY refl refl) refl;
          queue = merged QUE refl ∙ out_row QUE refl refl;
          groups = merged TOUCHED refl ∙ out_touched;
        }
      where
        merged : (s : ℕ) → among (DIST ∷ HEAD ∷ AFTER ∷ []) s ≡ false → row c s ≡ put_row s PREV i j (put_row s MANY (y j) (z j) (row b s))
        merged s h = only_row (DIST ∷ HEAD ∷ AFTER ∷ []) (counted_at b k j i) c s R.only h ∙ counted j s
