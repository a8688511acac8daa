-- The turns over the rows: a turn stores the names and the size of one part, and no position is in two parts. Assumes nothing.
use Prim.Native.Nat.{ℕ, ◌+◌, ◌≤◌, ◌<◌}
use mathlib.Core.Path.{◌≡◌, refl, sym, ◌∙◌}
use mathlib.Core.Logic.{⊎_elim, by_cases}
use mathlib.Core.Bool.{false}
use mathlib.Core.List.{List, [], ◌∷◌}
use native.Mathlib.Decide.{ℕ_discrete}
use native.Mathlib.Omega.{arith}
use lib.ListN.{length}
use Rattle.words.specs.Reads.{at}
use Rattle.words.proofs.Tests.{either}
use Rattle.slots.specs.Slots.{put}
use Rattle.slots.proofs.Laws.{view_is, put_same, put_other}
use Rattle.step1_rows.specs.Rows.{row, among, inside, Long, NAME, SIZE, DIST, QUE, REST, MANY}
use Rattle.step1_rows.proofs.Laws.{row_same, row_other, long-put, only_none, only-put, only_trans, only_more, only_row}
use Rattle.step2_bits.specs.Sets.{flags, Empty}
use Rattle.step2_bits.proofs.Flags.{flags-length}
use Rattle.refine.specs.Refine.{has, next_of}
use Rattle.refine.proofs.Next.{next-length, next-least}
use Rattle.step8_groups.specs.Sweep.{Walkable, Swept}
use Rattle.step8_groups.specs.Turns.{Waits}
use Rattle.step8_groups.specs.Groups.{Regrouped}
use Rattle.step8_groups.proofs.Grouping.{waits_more}
use Rattle.step9_parts.specs.Turns.{TurnedTo, winner}
use Rattle.step9_parts.specs.Parts.{weighed, with_loser, Due, Done, Turning, Turned}
use Rattle.step9_parts.proofs.Choosing.{part-begins, begins-part, waits_first, waits_begins, turn_waits, turn-part, waits_less, waits_other, choose_start, choose_asks, choose_step, choose_end}

-- the rows that a turn writes
abbrev WRITTEN : List ℕ
WRITTEN = NAME ∷ SIZE ∷ REST ∷ []

pub turning_start : {n h : ℕ} {a : List (List ℕ)} {w : List ℕ} → Long a → Empty (flags w) → Turning n h 0 a a w
turning_start {n} {h} {a} {w} L E =
    record {
      long = L;
      only = only_none WRITTEN a;
      each = λ t S R.
          record {
            named = λ i x y no. R.names.kept i x y (⊎_elim (λ m. absurd (no (waits_first R (at (next_of t S) i) (part-begins R i m)))) (λ m. m) (either (has S i)));
            waits = λ s v. R.names.moved s (waits_begins R v).moves;
            no_names = R.names.beyond;
            sized = λ s x y no. R.sizes s x (rw R.known.long at y) (λ B. no (waits_first R s B));
            no_sizes = rw R.known.long R.beyond;
            chosen = choose_start R E.none;
          };
    }

module _ {n h q c : ℕ} {a b : List (List ℕ)} {w : List ℕ} (l : q < h) (G : Turning n h q a b w) (d : c ≡ at (row b QUE) (q + 1)) where
  same : (r : ℕ) → among WRITTEN r ≡ false → row b r ≡ row a r
  same r f = only_row WRITTEN a b r G.only f

  e : c ≡ at (row a QUE) (q + 1)
  unfolding among
  e = rw (same QUE refl) at d

  module _ {t S : List ℕ} (R : Regrouped t S n h a) where
    N : TurnedTo t S (row a QUE) h q b (flags w)
    N = G.each t S R

    low : 1 ≤ c
    low = (turn-part R l e).low

    high : c ≤ length t
    high = (turn-part R l e).high

    c_high : c ≤ 1000
    c_high = omega (arith, high, R.known.long, R.known.few)

    -- the part still has the name of its old group
    old : at (row b NAME) c ≡ at t c
    old = N.waits c (turn_waits R l e)

    walkable : Walkable (next_of t S) (row b DIST) c
    unfolding among
    walkable =
        record {
          few = rw (next-length t S, R.known.long) R.known.few;
          least = next-least t S;
          gaps = rw (same DIST refl) R.gaps;
          low = low;
          high = rw (next-length t S) high;
          own = (turn-part R l e).named;
        }

    -- what is asked of the turn
    pub turning_due : Due b c
    turning_due =
        record {
          long = G.long;
          low = low;
          high = c_high;
          group_low = rw old (R.known.least.low c low high);
          group_high = rw old (omega (arith, R.known.least.high c low high, c_high));
          best_high = rw old (choose_asks R l e N.chosen);
          walk = (next_of t S, walkable);
        }

    module _ {b' : List (List ℕ)} {f : List ℕ} (D : Done b b' (flags w) f c) where
      W : Swept (next_of t S) (row b NAME) (row b' NAME) c (length (next_of t S))
      W = D.names (next_of t S) walkable

      sizes_are : row b' SIZE ≡ put (row b SIZE) c (at (row b MANY) c)
      unfolding among weighed
      sizes_are = only_row (NAME ∷ []) _ b' SIZE D.rows refl ∙ row_same _ SIZE _ _ (long-put b REST _ _ G.long) (omega arith) ∙ rw (row_other b REST _ _ SIZE refl) refl

      rests_are : row b' REST ≡ put (row b REST) (at t c) (winner (row a MANY) (at (row b REST) (at t c)) c)
      unfolding among weighed
      rests_are = only_row (NAME ∷ []) _ b' REST D.rows refl ∙ row_other _ SIZE _ _ REST refl ∙ row_same b REST _ _ G.long (omega arith) ∙ rw (old, same MANY refl) refl

      turned_on : TurnedTo t S (row a QUE) h (q + 1) b' f
      unfolding with_loser among
      turned_on =
          record {
            named = λ i x y no.
                by_cases (ℕ_discrete (at (next_of t S) i) c)
                (λ z. W.named i x (rw (next-length t S) y) z ∙ sym z)
                (λ ne. W.other i x (rw (next-length t S) y) ne ∙ N.named i x y (λ v. no (waits_more e v ne)));
            waits = λ s v.
                let P = begins-part R (waits_begins R v) in
                W.other s P.low (rw (next-length t S) P.high) (λ z. waits_other R l e v (sym P.named ∙ z)) ∙ N.waits s (waits_less R l e v);
            no_names = λ i x y. W.beyond i (rw (next-length t S) x) y ∙ N.no_names i x y;
            sized = λ s x y no.
                by_cases (ℕ_discrete s c)
                (λ z. rw (sizes_are, z) (put_same (row b SIZE) c _ low (omega (arith, c_high, G.long.each SIZE (omega arith))) ∙ rw (same MANY refl) (R.many c (waits_begins R (turn_waits R l e)))))
                (λ ne. rw sizes_are (put_other (row b SIZE) c _ s low x ne ∙ N.sized s x y (λ v. no (waits_more e v ne))));
            no_sizes = λ s x y. rw sizes_are (put_other (row b SIZE) c _ s low (omega arith) (omega (arith, high)) ∙ N.no_sizes s x y);
            chosen = rw (rests_are, D.flags_are, old, same MANY refl) (choose_step R l e N.chosen (G.long.each REST (omega arith)) (flags-length w));
          }

  pub turning_step : {b' : List (List ℕ)} {w' : List ℕ} → Done b b' (flags w) (flags w') c → Turning n h (q + 1) a b' w'
  unfolding among inside weighed
  turning_step {b'} D =
      record {
        long = D.long;
        only = only_trans WRITTEN a b b' G.only
            (only_trans WRITTEN b _ b' (only-put WRITTEN b REST _ _ refl)
            (only_trans WRITTEN _ _ b' (only-put WRITTEN _ SIZE _ _ refl) (only_more (NAME ∷ []) WRITTEN _ b' refl D.rows)));
        each = λ t S R. turned_on R D;
      }

-- at last no part waits
pub turning_end : {t S : List ℕ} {n h q : ℕ} {a b : List (List ℕ)} {w : List ℕ} → q ≡ h → Turning n h q a b w → Regrouped t S n h a → Turned t S n a b w
turning_end {t} {S} {n} {h} {q} {a} {b} {w} e G R =
    record {
      long = G.long;
      only = G.only;
      names = view_is n (row b NAME) (next_of t S) (next-length t S ∙ R.known.long) (rw (G.long.each NAME (omega arith)) R.known.few) (λ i x y. N.named i x (rw R.known.long y) none);
      beyond = rw R.known.long at N.no_names;
      sized = record {
        long = G.long.each SIZE (omega arith);
        held = λ s x y. N.sized s x (rw (next-length t S) at y) none;
        beyond = λ s x y. N.no_sizes s (rw (next-length t S) at x) y;
      };
      flags_are = choose_end R N.chosen (flags-length w);
    }
  where
    N : TurnedTo t S (row a QUE) h h b (flags w)
    N = rw e at (G.each t S R)

    none : {s : ℕ} → Waits (row a QUE) h h s → ⊥
    none v = omega (arith, v.low, v.high)
