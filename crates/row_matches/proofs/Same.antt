-- A front compared before the rest. Assumes nothing.
use Prim.Native.Nat.{ℕ, zero, suc, ◌≤◌}
use mathlib.Core.Path.{◌≡◌, refl, sym, ap, ◌∙◌}
use mathlib.Core.Logic.{⊎_elim}
use mathlib.Core.Bool.{true, false, ◌&&◌}
use mathlib.Core.List.{List, [], ◌∷◌, ◌++◌}
use native.Mathlib.Omega.{arith}
use lib.ListN.{length, take, drop}
use lib.Dec.{eqb}
use borrow.Author.Tests.{eqb-true, eq-eqb, ne_eqb}
use Rattle.words.specs.Reads.{same}
use Rattle.words.proofs.Tests.{either, same_test}

-- a front and the rest
pub same_join : (u v w : List ℕ) → same (u ++ v) w ≡ same u (take (length u) w) && same v (drop (length u) w)
unfolding same
same_join [] v w = refl
same_join (a ∷ u) v [] = refl
same_join (a ∷ u) v (b ∷ w) =
    ⊎_elim (λ (t : eqb a b ≡ true). rw (t, same) (same_join u v w)) (λ (t : eqb a b ≡ false). rw (t, same)) (either (eqb a b))

pub same_end : (l : List ℕ) (at : ℕ) → at ≤ length l → same [] (drop at l) ≡ eqb at (length l)
unfolding same
same_end [] zero h = refl
same_end [] (suc k) h = absurd (omega arith)
same_end (a ∷ l) zero h = sym (ne_eqb 0 (length (a ∷ l)) (omega arith))
same_end (a ∷ l) (suc k) h =
    same_end l k (omega arith)
    ∙ same_test (eqb k (length l)) (eqb (suc k) (suc (length l)))
    (λ t. eq-eqb (suc k) (suc (length l)) (ap suc (eqb-true k (length l) t)))
    (λ t. eq-eqb k (length l) (omega (arith, eqb-true (suc k) (suc (length l)) t)))
