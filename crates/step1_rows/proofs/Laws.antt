-- What the rows are after a store, and which of them stay. Assumes nothing.
use Prim.Native.Nat.{ℕ, ◌<◌}
use mathlib.Core.Path.{◌≡◌, refl, sym, ap, ◌∙◌}
use mathlib.Core.Bool.{Bool, true, false, true≢false}
use mathlib.Core.Logic.{⊎_elim}
use mathlib.Core.List.{List, [], ◌∷◌}
use lib.ListN.{length, length-set}
use lib.Seq.{get_or-set_same, get_or-set_other}
use lib.Dec.{eqb}
use borrow.Author.Tests.{eqb-true, eqb-false}
use Rattle.words.proofs.Tests.{either}
use Rattle.slots.specs.Slots.{put}
use Rattle.slots.proofs.Laws.{put-length}
use Rattle.step1_rows.specs.Rows.{row, put_at, Long, among, inside, Only}

module _ (a : List (List ℕ)) (r i v : ℕ) where
  pub row_same : Long a → r < 12 → row (put_at a r i v) r ≡ put (row a r) i v
  unfolding put_at row
  row_same L h = get_or-set_same a r _ [] (rw L.rows h)

  pub row_other : (s : ℕ) → eqb r s ≡ false → row (put_at a r i v) s ≡ row a s
  unfolding put_at row
  row_other s e = get_or-set_other a r s _ [] (λ d. eqb-false r s e (sym d))

  rows-put : length (put_at a r i v) ≡ length a
  unfolding put_at
  rows-put = length-set a r _

  pub long-put : Long a → Long (put_at a r i v)
  long-put L = record { rows = rows-put ∙ L.rows; each = each }
    where
      each : (s : ℕ) → s < 12 → length (row (put_at a r i v) s) ≡ 1000
      each s h =
          ⊎_elim
          (λ e. let d = eqb-true r s e in rw (← d) (rw (row_same L (rw d h)) (put-length (row a r) i v ∙ L.each r (rw d h))))
          (λ e. rw (row_other s e) (L.each s h))
          (either (eqb r s))

pub only_none : (ws : List ℕ) (a : List (List ℕ)) → Only ws a a
unfolding Only
only_none ws a r h = refl

pub only-put : (ws : List ℕ) (a : List (List ℕ)) (r i v : ℕ) → among ws r ≡ true → Only ws a (put_at a r i v)
unfolding put_at row Only
only-put ws a r i v h s g = get_or-set_other a r s _ [] (λ e. true≢false (sym h ∙ ap (among ws) (sym e) ∙ g))

pub only_trans : (ws : List ℕ) (a b c : List (List ℕ)) → Only ws a b → Only ws b c → Only ws a c
unfolding Only
only_trans ws a b c p q r h = q r h ∙ p r h

split : {X : Type 0} (b : Bool) → (b ≡ true → X) → (b ≡ false → X) → X
split true f g = f refl
split false f g = g refl

out : (ws vs : List ℕ) (r : ℕ) → inside ws vs ≡ true → among vs r ≡ false → among ws r ≡ false
unfolding among inside
out [] vs r h g = refl
out (w ∷ ws) vs r h g =
    split (among vs w)
    (λ e.
    split (eqb w r)
    (λ d. absurd (true≢false (sym e ∙ ap (among vs) (eqb-true w r d) ∙ g)))
    (λ d. rw d (out ws vs r (rw e at h) g)))
    (λ e. absurd (true≢false (sym (rw e at h))))

-- what leaves all but some rows leaves all but more
pub only_more : (ws vs : List ℕ) (a b : List (List ℕ)) → inside ws vs ≡ true → Only ws a b → Only vs a b
unfolding Only
only_more ws vs a b h p r g = p r (out ws vs r h g)

-- a row that stays
pub only_row : (ws : List ℕ) (a b : List (List ℕ)) (r : ℕ) → Only ws a b → among ws r ≡ false → row b r ≡ row a r
unfolding Only
only_row ws a b r o h = o r h
