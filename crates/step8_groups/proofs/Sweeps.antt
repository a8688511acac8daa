-- The walk that names a group comes to each of its positions: between a position and the next there is none of the group. Assumes nothing.
use Prim.Native.Nat.{ℕ, ◌+◌, ◌≤◌, ◌<◌}
use mathlib.Core.Path.{◌≡◌, refl, sym, ap, ◌∙◌}
use mathlib.Core.Logic.{by_cases, ⊎_elim}
use mathlib.Core.List.{List, [], ◌∷◌}
use native.Mathlib.Omega.{arith}
use native.Mathlib.Decide.{ℕ_discrete}
use lib.ListN.{length}
use Rattle.words.specs.Reads.{at}
use Rattle.words.proofs.Tests.{lt_or_ge}
use Rattle.slots.proofs.Laws.{put-length, put_same, put_other}
use Rattle.step1_rows.specs.Rows.{row, put_at, Long, among, Only, NAME, DIST}
use Rattle.step1_rows.proofs.Laws.{row_same, row_other, long-put, only_none, only-put, only_trans, only_row}
use Rattle.refine.proofs.Links.{Nearest, gap_nearest}
use Rattle.step8_groups.specs.Sweep.{Walkable, Swept, SweepingRows}

-- h is stored at h, where the walk begins
pub sweep_begins : (a : List (List ℕ)) (h j : ℕ) → j ≡ h → Long a → SweepingRows (put_at a NAME j h) (put_at a NAME j h) h j (at (row a DIST) j)
sweep_begins a h j e L =
    rw e
    (record {
      long = long-put a NAME h h L;
      only = only_none (NAME ∷ []) (put_at a NAME h h);
      each = λ u W.
          record {
            swept = record {
              long = (long-put a NAME h h L).each NAME (omega arith);
              named = λ i b c f.
                  let s : i ≡ h = omega (arith, c, f, W.least.high i b (omega (arith, c, W.high))) in
                  rw (s, row_same a NAME h h L (omega arith)) (put_same (row a NAME) h h W.low (omega (arith, W.high, W.few, L.each NAME (omega arith))));
              other = λ i b c ne. refl;
              beyond = λ i b c. refl;
            };
            low = W.low;
            high = W.high;
            of = W.own;
            ahead = rw (row_other a NAME h h DIST refl) at (W.gaps.next h W.low W.high);
          };
    })

module _ (a b : List (List ℕ)) (h j d : ℕ) (Z : SweepingRows a b h j d) where
  -- the distance ahead leads to a position of the same group, and passes none
  ahead_nearest : (u : List ℕ) → Walkable u (row a DIST) h → Nearest u j d
  ahead_nearest u W = rw (Z.each u W).ahead (gap_nearest u j (Z.each u W).high)

  pub sweep_inside : (u : List ℕ) → Walkable u (row a DIST) h → j + d ≤ 1000
  sweep_inside u W = omega (arith, (ahead_nearest u W).high, W.few)

  -- h is stored there too
  pub sweep_goes_on : 0 < d → SweepingRows a (put_at b NAME (j + d) h) h (j + d) (at (row (put_at b NAME (j + d) h) DIST) (j + d))
  unfolding among
  sweep_goes_on p =
      record {
        long = long-put b NAME (j + d) h Z.long;
        only = only_trans (NAME ∷ []) a b (put_at b NAME (j + d) h) Z.only (only-put (NAME ∷ []) b NAME (j + d) h refl);
        each = λ u W.
            let S = Z.each u W in
            let N = ahead_nearest u W in
            let l : 1 ≤ j + d = omega (arith, p) in
            rw (row_same b NAME (j + d) h Z.long (omega arith), row_other b NAME (j + d) h DIST refl, only_row (NAME ∷ []) a b DIST Z.only refl)
            (record {
              swept = record {
                long = put-length (row b NAME) (j + d) h ∙ S.swept.long;
                named = λ i x y e.
                    by_cases (ℕ_discrete i (j + d))
                    (λ s. rw s (put_same (row b NAME) (j + d) h l (omega (arith, sweep_inside u W, S.swept.long))))
                    (λ ne.
                    put_other (row b NAME) (j + d) h i l x ne
                    ∙ ⊎_elim (λ m. absurd (N.free i m (omega arith) (e ∙ sym S.of))) (λ m. S.swept.named i x m e) (lt_or_ge j i));
                other = λ i x y ne. put_other (row b NAME) (j + d) h i l x (λ s. ne (ap (at u) s ∙ N.same ∙ S.of)) ∙ S.swept.other i x y ne;
                beyond = λ i x y. put_other (row b NAME) (j + d) h i l (omega arith) (omega (arith, N.high)) ∙ S.swept.beyond i x y;
              };
              low = l;
              high = N.high;
              of = N.same ∙ S.of;
              ahead = W.gaps.next (j + d) l N.high;
            });
      }

-- with no distance ahead the whole group is named, and no row but the names is changed
pub sweep_ends : (a : List (List ℕ)) (h j : ℕ) → j ≡ h → Long a → (b : List (List ℕ)) (i d : ℕ) → SweepingRows (put_at a NAME j h) b h i d → d ≡ 0
    → Long b × Only (NAME ∷ []) a b × ((u : List ℕ) → Walkable u (row a DIST) h → Swept u (row a NAME) (row b NAME) h (length u))
unfolding among
sweep_ends a h j e L b i d Z z = (
  Z.long,
  only_trans (NAME ∷ []) a (put_at a NAME j h) b (only-put (NAME ∷ []) a NAME j h refl) Z.only,
  λ u W.
      let X : Walkable u (row (put_at a NAME j h) DIST) h = rw (row_other a NAME j h DIST refl) W in
      let S = rw (e, row_same a NAME h h L (omega arith)) at (Z.each u X) in
      record {
        long = S.swept.long;
        named = λ s x y f.
            ⊎_elim
            (λ l. absurd ((ahead_nearest (put_at a NAME j h) b h i d Z u X).end z s l y (f ∙ sym S.of)))
            (λ l. S.swept.named s x l f) (lt_or_ge i s);
        other = λ s x y ne. S.swept.other s x y ne ∙ put_other (row a NAME) h h s W.low x (λ f. ne (ap (at u) f ∙ W.own));
        beyond = λ s x y. S.swept.beyond s x y ∙ put_other (row a NAME) h h s W.low (omega arith) (omega (arith, W.high));
      },
)
