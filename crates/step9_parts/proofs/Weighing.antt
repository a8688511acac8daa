-- One turn over the rows: the three ways of weighing a part, and what the stores of a turn make together. Assumes nothing.
use Prim.Native.Nat.{ℕ, ◌≤◌}
use mathlib.Core.Path.{◌≡◌, refl, sym, ◌∙◌}
use mathlib.Core.Logic.{◌≢◌}
use mathlib.Core.Bool.{true, false}
use mathlib.Core.List.{List, [], ◌∷◌}
use native.Mathlib.Omega.{arith}
use lib.ListN.{length}
use lib.Dec.{eqb}
use borrow.Author.Tests.{eq-eqb, ne_eqb}
use Rattle.words.specs.Reads.{at}
use Rattle.slots.specs.Slots.{put}
use Rattle.slots.proofs.Laws.{some_is, some-none}
use Rattle.step1_rows.specs.Rows.{row, put_at, Long, Only, NAME, SIZE, DIST, REST, MANY}
use Rattle.step1_rows.proofs.Laws.{row_other, long-put}
use Rattle.step8_groups.specs.Sweep.{Walkable, Swept}
use Rattle.step8_groups.proofs.Turning.{put_itself}
use Rattle.step9_parts.specs.Turns.{better_of, takes, winner, loser}
use Rattle.step9_parts.specs.Parts.{weighed, with_loser, Done}

module _ (a : List (List ℕ)) (f : List ℕ) (k c : ℕ) where
  abbrev b : ℕ
  b = at (row a REST) k

  -- there was no part before
  pub weigh_first : {r : ℕ} → r ≡ at (row a REST) k → r ≡ 0 → (put_at a REST k c ≡ weighed a k c) × (f ≡ with_loser a f k c)
  unfolding weighed with_loser winner loser takes
  weigh_first e z = let d = sym e ∙ z in rw (eq-eqb b 0 d) (refl, sym (some-none f b 1 d))

  module _ {r z y : ℕ} (e : r ≡ at (row a REST) k) (g : z ≡ at (row a MANY) r) (h : y ≡ at (row a MANY) c) (ne : r ≢ 0) where
    -- the new one is better
    pub weigh_takes : better_of r z c y ≡ true → (put_at a REST k c ≡ weighed a k c) × (put f r 1 ≡ with_loser a f k c)
    unfolding weighed with_loser winner loser takes
    weigh_takes t = rw (← e, ← g, ← h, ne_eqb r 0 ne, t) (refl, sym (some_is f r 1 (omega arith)))

    -- the old one is
    pub weigh_keeps : better_of r z c y ≡ false → 1 ≤ c → (a ≡ weighed a k c) × (put f c 1 ≡ with_loser a f k c)
    unfolding weighed with_loser winner loser takes
    weigh_keeps t l = rw (← e, ← g, ← h, ne_eqb r 0 ne, t) (rw e (sym (put_itself a REST k)), sym (some_is f c 1 l))

-- c is weighed, y is stored as its size, and then its positions are named
module _ (a a₁ a₂ : List (List ℕ)) (k c y : ℕ) (L : Long a) (e : a₁ ≡ weighed a k c) (d : a₂ ≡ put_at a₁ SIZE c y) where
  same : (r : ℕ) → eqb REST r ≡ false → eqb SIZE r ≡ false → row a₂ r ≡ row a r
  unfolding weighed
  same r x z = rw (d, e, row_other _ SIZE _ _ r z) (row_other a REST _ _ r x)

  pub turn-walk : ((u : List ℕ) × Walkable u (row a DIST) c) → Long a₂ × ((u : List ℕ) × Walkable u (row a₂ DIST) c)
  unfolding weighed
  turn-walk W = (rw (d, e) (long-put _ SIZE c y (long-put a REST k _ L)), (W.0, rw (same DIST refl refl) W.1))

  pub turn-done : {b : List (List ℕ)} {f g : List ℕ} → k ≡ at (row a NAME) c → g ≡ with_loser a f k c → y ≡ at (row a₁ MANY) c → Long b → Only (NAME ∷ []) a₂ b
      → ((u : List ℕ) → Walkable u (row a₂ DIST) c → Swept u (row a₂ NAME) (row b NAME) c (length u)) → Done a b f g c
  unfolding weighed
  turn-done {b} o z m B O W =
      record {
        long = B;
        rows = rw (d, m, e, row_other a REST _ _ MANY refl, o) at O;
        names = λ u X. rw (same NAME refl refl) at (W u (rw (same DIST refl refl) X));
        flags_are = rw (z, o) refl;
      }
