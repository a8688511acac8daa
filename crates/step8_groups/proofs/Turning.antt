-- One turn of `group_one` over the rows: what its stores make together, in each of its three cases. Assumes nothing.
use Prim.Native.Nat.{ℕ, ◌-◌, ◌≤◌}
use mathlib.Core.Path.{◌≡◌, refl, sym, ◌∙◌}
use mathlib.Core.Logic.{◌≢◌, ⊎_elim}
use mathlib.Core.Bool.{false}
use mathlib.Core.List.{List, [], ◌∷◌}
use native.Mathlib.Omega.{arith}
use lib.ListN.{length, get_or}
use lib.Dec.{eqb}
use lib.Seq.{set-get_or}
use borrow.Author.Tests.{lt-ltb, le-ltb}
use Rattle.words.specs.Reads.{at}
use Rattle.words.proofs.Tests.{lt_or_ge}
use Rattle.slots.specs.Slots.{put, put_some}
use Rattle.slots.proofs.Laws.{some_is, some-none}
use Rattle.step1_rows.specs.Rows.{row, put_at, Long, among, Only, NAME, SIZE, DIST, TAIL, REST, MANY}
use Rattle.step1_rows.proofs.Laws.{row_same, row_other, long-put, only_none, only-put, only_trans}
use Rattle.step8_groups.specs.Sweep.{Walkable, Swept}
use Rattle.step8_groups.specs.Turns.{stored, Due, Done}

-- the rows that a turn writes
abbrev pub WRITTEN : List ℕ
WRITTEN = NAME ∷ SIZE ∷ TAIL ∷ MANY ∷ []

-- what stood there stored again
pub put_itself : (a : List (List ℕ)) (r k : ℕ) → put_at a r k (at (row a r) k) ≡ a
unfolding put_at put row at
put_itself a r k = rw (set-get_or (get_or a r []) (k - 1) 0) (set-get_or a r [])

-- ---- the rows after the stores

module _ (a : List (List ℕ)) (k l : ℕ) where
  abbrev v : ℕ
  v = at (row a SIZE) k

  stored_some : 1 ≤ l → stored a k l ≡ put_at (put_at (put_at a TAIL k 0) MANY l v) SIZE l v
  unfolding stored
  stored_some p = rw (lt-ltb 0 l p) refl

  stored-none : l ≡ 0 → stored a k l ≡ put_at a TAIL k 0
  unfolding stored
  stored-none z = rw (le-ltb 0 l (omega arith)) refl

  -- all but the names at once
  pub stored-rows : Long a
      → Only WRITTEN a (stored a k l) × (row (stored a k l) SIZE ≡ put_some (row a SIZE) l v) × (row (stored a k l) MANY ≡ put_some (row a MANY) l v) × (row (stored a k l) TAIL ≡ put (row a TAIL) k 0)
  unfolding among
  stored-rows L =
      let L₁ = long-put a TAIL k 0 L in
      let O = only-put WRITTEN a TAIL k 0 refl in
      let tail = row_same a TAIL k 0 L (omega arith) in
      ⊎_elim
      (λ p.
      rw (stored_some p, some_is (row a SIZE) l v p, some_is (row a MANY) l v p) (
        only_trans WRITTEN a _ _ O (only_trans WRITTEN _ _ _ (only-put WRITTEN _ MANY l v refl) (only-put WRITTEN _ SIZE l v refl)),
        row_same _ SIZE l v (long-put _ MANY l v L₁) (omega arith) ∙ rw (row_other _ MANY l v SIZE refl, row_other a TAIL k 0 SIZE refl) refl,
        row_other _ SIZE l v MANY refl ∙ row_same _ MANY l v L₁ (omega arith) ∙ rw (row_other a TAIL k 0 MANY refl) refl,
        row_other _ SIZE l v TAIL refl ∙ row_other _ MANY l v TAIL refl ∙ tail,
      ))
      (λ p.
      let z : l ≡ 0 = omega arith in
      rw (stored-none z, some-none (row a SIZE) l v z, some-none (row a MANY) l v z) (O, row_other a TAIL k 0 SIZE refl, row_other a TAIL k 0 MANY refl, tail))
      (lt_or_ge 0 l)

-- ---- the three cases: r is the size that is stored

module _ (a : List (List ℕ)) (k l r : ℕ) (e : l ≡ at (row a REST) k) (f : r ≡ at (row a SIZE) k) (L : Long a) where
  abbrev a₁ : List (List ℕ)
  a₁ = put_at a TAIL k 0

  abbrev a₂ : List (List ℕ)
  a₂ = put_at a₁ MANY l r

  abbrev a₃ : List (List ℕ)
  a₃ = put_at a₂ SIZE l r

  -- nothing is left
  pub turn_gone : l ≡ 0 → Done a a₁ k
  turn_gone z =
      record {
        long = long-put a TAIL k 0 L;
        rows = rw (stored-none a k _ (sym e ∙ z)) (only_none (NAME ∷ []) a₁);
        idle = λ _. row_other a TAIL k 0 NAME refl;
        names = λ p. absurd (omega (arith, e, z));
      }

  -- the old name stays
  pub turn-same : 1 ≤ l → l ≡ k → Done a a₂ k
  turn-same p z =
      record {
        long = long-put a₁ MANY l r (long-put a TAIL k 0 L);
        rows = rw (← e, stored_some a k l p, ← f) (rw all (only_none (NAME ∷ []) a₂));
        idle = λ _. row_other a₁ MANY l r NAME refl ∙ row_other a TAIL k 0 NAME refl;
        names = λ _ ne. absurd (ne (sym e ∙ z));
      }
    where
      all : a₃ ≡ a₂
      all =
          let d : at (row a₂ SIZE) l ≡ r = rw (row_other a₁ MANY l r SIZE refl, row_other a TAIL k 0 SIZE refl, z) (sym f) in
          rw d at (put_itself a₂ SIZE l)

  -- it moves, and what is left is named by a walk
  module _ (p : 1 ≤ l) (ne : l ≢ k) where
    row₃ : (x : ℕ) → eqb TAIL x ≡ false → eqb MANY x ≡ false → eqb SIZE x ≡ false → row a₃ x ≡ row a x
    row₃ x b c d = row_other a₂ SIZE l r x d ∙ row_other a₁ MANY l r x c ∙ row_other a TAIL k 0 x b

    pub turn-walk : Due a k → Long a₃ × ((u : List ℕ) × Walkable u (row a₃ DIST) l)
    turn-walk D =
        let W = D.walk (rw (← e) p) in
        (long-put a₂ SIZE l r (long-put a₁ MANY l r (long-put a TAIL k 0 L)), (W.0, rw (row₃ DIST refl refl refl, e) W.1))

    pub turn_renamed : (b : List (List ℕ)) → Long b → Only (NAME ∷ []) a₃ b → ((u : List ℕ) → Walkable u (row a₃ DIST) l → Swept u (row a₃ NAME) (row b NAME) l (length u)) → Done a b k
    turn_renamed b B O W =
        record {
          long = B;
          rows = rw (← e, stored_some a k l p, ← f) O;
          idle = λ o. absurd (⊎_elim (λ z. omega (arith, e, z)) (λ z. ne (e ∙ z)) o);
          names = λ _ _ u X. rw (row₃ NAME refl refl refl, e) at (W u (rw (row₃ DIST refl refl refl, e) X));
        }
