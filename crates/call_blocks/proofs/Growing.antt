-- A block while it grows: one line, one more, and its end. Assumes nothing.
use Prim.Native.Nat.{ℕ, ◌+◌, ◌-◌, ◌≤◌, ◌<◌, max}
use mathlib.Core.Path.{◌≡◌, ap, ◌∙◌}
use mathlib.Core.Logic.{⊎_elim, ◌≢◌}
use mathlib.Core.List.{List}
use native.Mathlib.Omega.{arith}
use Rattle.words.specs.Range.{largest}
use Rattle.words.specs.Rows.{rows}
use Rattle.words.specs.Lists.{line_size, period_of, copies_of}
use Rattle.words.proofs.Tests.{lt_or_ge}
use Rattle.words_index.proofs.Largest.{largest_more}
use Rattle.call_blocks.specs.Block.{Blocks}

-- the lines from k to below j have the period of k, and `most` is their largest copy count
pub record Grows (l : List ℕ) (k j most : ℕ) : Type 0 where
  pub some : k < j
  pub high : j ≤ rows line_size l
  pub same : (h : ℕ) → k ≤ h → h < j → period_of l h ≡ period_of l k
  pub most_is : most ≡ largest (copies_of l) (j - k) k

module _ (l : List ℕ) (k : ℕ) where
  pub grows_one : (most : ℕ) → k < rows line_size l → most ≡ copies_of l k → Grows l k (k + 1) most
  unfolding largest
  grows_one most b e =
      let d : k + 1 - k ≡ 1 = omega arith in
      record {
        some = omega arith;
        high = omega arith;
        same = λ h a c. ap (period_of l) (omega arith);
        most_is = rw d (omega (arith, e));
      }

  pub grows_more : (j most next : ℕ) → Grows l k j most → j < rows line_size l → period_of l j ≡ period_of l k → next ≡ max most (copies_of l j) → Grows l k (j + 1) next
  grows_more j most next G b p e =
      let d : j + 1 - k ≡ j - k + 1 = omega (arith, G.some) in
      let at : k + (j - k) ≡ j = omega (arith, G.some) in
      record {
        some = omega (arith, G.some);
        high = omega arith;
        same = λ h a c. ⊎_elim (λ m. G.same h a m) (λ m. let q : h ≡ j = omega arith in ap (period_of l) q ∙ p) (lt_or_ge h j);
        most_is = e ∙ omega (arith, G.most_is, largest_more (copies_of l) (j - k) k, ap (copies_of l) at, ap (λ (v : ℕ). largest (copies_of l) v k) d);
      }

  pub grows_ended : (j most : ℕ) → Grows l k j most → (j < rows line_size l → period_of l j ≢ period_of l k) → Blocks l k j most
  grows_ended j most G ne = record { some = G.some; high = G.high; same = G.same; other = ne; most_is = G.most_is }
