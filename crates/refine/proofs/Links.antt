-- The links between positions of a group, described and determined: the next, and the one before. Assumes nothing.
use Prim.Native.Nat.{ℕ, ◌+◌, ◌-◌, ◌≤◌, ◌<◌}
use mathlib.Core.Path.{◌≡◌, sym, ap, ◌∙◌}
use mathlib.Core.Logic.{◌⊎◌, inl, inr, ⊎_elim, ◌≢◌}
use mathlib.Core.Bool.{Bool, true, false}
use mathlib.Core.List.{List}
use native.Mathlib.Omega.{arith}
use native.Mathlib.Nat.{le_antisymm}
use lib.ListN.{length}
use lib.Dec.{leb, eqb}
use borrow.Author.Tests.{leb-true, leb-false, eqb-true, eqb-false, eq-eqb}
use Rattle.words.specs.Range.{first}
use Rattle.words.specs.Reads.{at}
use Rattle.words.specs.Groups.{gap}
use Rattle.words.proofs.Tests.{either, clash, lt_or_ge, same_test}
use Rattle.words.proofs.Ranges.{found, Found, first-same}
use Rattle.words.proofs.Small.{Refines}
use Rattle.refine.specs.Links.{back}

-- d is the distance from i to the next position of its group, 0 if there is none
pub record Nearest (t : List ℕ) (i d : ℕ) : Type 0 where
  pub high : i + d ≤ length t
  pub same : at t (i + d) ≡ at t i
  pub free : (j : ℕ) → i < j → j < i + d → at t j ≢ at t i
  pub end : d ≡ 0 → (j : ℕ) → i < j → j ≤ length t → at t j ≢ at t i

-- j is the position before i in its group, 0 if there is none
pub record Before (t : List ℕ) (i j : ℕ) : Type 0 where
  pub low : j < i
  pub same : 1 ≤ j → at t j ≡ at t i
  pub free : (k : ℕ) → j < k → k < i → at t k ≢ at t i

module _ (t : List ℕ) (i : ℕ) where
  abbrev ahead : ℕ
  ahead = first (λ m. eqb (at t i) (at t (i + m))) (length t - i) 1

  pub gap_nearest : i ≤ length t → Nearest t i (gap t i)
  unfolding gap
  gap_nearest b = go (either (leb (i + ahead) (length t)))
    where
      ahead_is : Found (λ m. eqb (at t i) (at t (i + m))) (length t - i) 1 ahead
      ahead_is = found (λ m. eqb (at t i) (at t (i + m))) (length t - i) 1

      other : (j : ℕ) → i < j → j < i + ahead → at t j ≢ at t i
      other j l m e = clash (eq-eqb (at t i) (at t (i + (j - i))) (sym e ∙ ap (at t) (omega arith))) (ahead_is.least (j - i) (omega arith) (omega arith))

      go : (leb (i + ahead) (length t) ≡ true) ⊎ (leb (i + ahead) (length t) ≡ false) → Nearest t i (gap t i)
      go (inl e) =
          let l : i + ahead ≤ length t = leb-true (i + ahead) (length t) e in
          rw e
          (record {
            high = l;
            same = sym (eqb-true (at t i) (at t (i + ahead)) (ahead_is.pass (omega arith)));
            free = other;
            end = λ z. absurd (omega (arith, z, ahead_is.low));
          })
      go (inr e) =
          let past : length t < i + ahead = leb-false (i + ahead) (length t) e in
          rw e
          (record {
            high = omega arith;
            same = ap (at t) (omega arith);
            free = λ j l m. absurd (omega arith);
            end = λ z j l m. other j l (omega arith);
          })

  -- after the last position there is none
  gap_beyond : length t < i → gap t i ≡ 0
  unfolding gap
  gap_beyond l = ⊎_elim (λ e. absurd (omega (arith, leb-true (i + ahead) (length t) e))) (λ e. rw e) (either (leb (i + ahead) (length t)))

  -- a position of the group that lies g ahead is the next, or the next is nearer
  pub gap-reach : (g : ℕ) → 1 ≤ g → i + g ≤ length t → at t (i + g) ≡ at t i → (1 ≤ gap t i) × (gap t i ≤ g)
  gap-reach g a b e =
      let G = gap_nearest (omega arith) in (
        ⊎_elim (λ l. l) (λ l. absurd (G.end (omega arith) (i + g) (omega arith) b e)) (lt_or_ge 0 (gap t i)),
        ⊎_elim (λ l. absurd (G.free (i + g) (omega arith) (omega arith) e)) (λ l. l) (lt_or_ge g (gap t i)),
      )

  -- there is only one such distance
  nearest_le : (d e : ℕ) → Nearest t i d → Nearest t i e → d ≤ e
  nearest_le d e N G = ⊎_elim (λ l. absurd (less l (either (eqb e 0)))) (λ l. l) (lt_or_ge e d)
    where
      less : e < d → (eqb e 0 ≡ true) ⊎ (eqb e 0 ≡ false) → ⊥
      less l (inl z) = G.end (eqb-true e 0 z) (i + d) (omega arith) N.high N.same
      less l (inr z) = N.free (i + e) (omega (arith, eqb-false e 0 z)) (omega arith) G.same

  pub nearest_gap : (d : ℕ) → 1 ≤ i → i ≤ length t → Nearest t i d → gap t i ≡ d
  nearest_gap d a b N = let G = gap_nearest b in le_antisymm (nearest_le (gap t i) d G N) (nearest_le d (gap t i) N G)

  pub back-before : 1 ≤ i → Before t i (back t i)
  unfolding back
  back-before a =
      let p : ℕ → Bool = λ m. eqb (at t (i - m)) (at t i) in
      let F = found p (i - 1) 1 in
      record {
        low = omega (arith, F.low);
        same = λ l. eqb-true (at t (i - first p (i - 1) 1)) (at t i) (F.pass (omega (arith, F.low)));
        free = λ k l m e. clash (eq-eqb (at t (i - (i - k))) (at t i) (ap (at t) (omega arith) ∙ e)) (F.least (i - k) (omega arith) (omega (arith, F.high)));
      }

  -- and only one such position
  before_le : (j k : ℕ) → Before t i j → Before t i k → j ≤ k
  before_le j k B G = ⊎_elim (λ l. absurd (G.free j l B.low (B.same (omega arith)))) (λ l. l) (lt_or_ge k j)

  pub before_back : (j : ℕ) → 1 ≤ i → Before t i j → back t i ≡ j
  before_back j a B = let G = back-before a in le_antisymm (before_le (back t i) j G B) (before_le j (back t i) B G)

-- tables that join the same positions have the same links
module _ (t u : List ℕ) (long : length t ≡ length u) (alike : (i j : ℕ) → 1 ≤ i → i ≤ length t → 1 ≤ j → j ≤ length t → at t i ≡ at t j → at u i ≡ at u j)
    (back-alike : (i j : ℕ) → 1 ≤ i → i ≤ length t → 1 ≤ j → j ≤ length t → at u i ≡ at u j → at t i ≡ at t j) (i : ℕ) (a : 1 ≤ i) (b : i ≤ length t) where
  test_agrees : (j k : ℕ) → 1 ≤ j → j ≤ length t → 1 ≤ k → k ≤ length t → eqb (at t j) (at t k) ≡ eqb (at u j) (at u k)
  test_agrees j k c d e f =
      same_test (eqb (at t j) (at t k)) (eqb (at u j) (at u k))
      (λ h. eq-eqb (at u j) (at u k) (alike j k c d e f (eqb-true (at t j) (at t k) h)))
      (λ h. eq-eqb (at t j) (at t k) (back-alike j k c d e f (eqb-true (at u j) (at u k) h)))

  pub gap_agrees : gap t i ≡ gap u i
  unfolding gap
  gap_agrees =
      rw (← long, first-same (λ m. eqb (at t i) (at t (i + m))) (λ m. eqb (at u i) (at u (i + m))) (length t - i) 1 (λ m c d. test_agrees i (i + m) a b (omega arith) (omega arith)))

  pub back_agrees : back t i ≡ back u i
  unfolding back
  back_agrees =
      rw (first-same (λ m. eqb (at t (i - m)) (at t i)) (λ m. eqb (at u (i - m)) (at u i)) (i - 1) 1 (λ m c d. test_agrees (i - m) i (omega arith) (omega arith) a b))

-- ---- finer groups: no distance is less, where there is one

pub gap_grows : (t u : List ℕ) → Refines t u → (i : ℕ) → 1 ≤ i → 1 ≤ gap u i → (i ≤ length u) × (1 ≤ gap t i) × (gap t i ≤ gap u i)
gap_grows t u R i a some =
    let b : i ≤ length u = ⊎_elim (λ l. absurd (omega (arith, gap_beyond u i l))) (λ l. l) (lt_or_ge (length u) i) in
    let N = gap_nearest u i b in
    let r = gap-reach t i (gap u i) some (omega (arith, N.high, R.long)) (R.splits (i + gap u i) i (omega arith) N.high a b N.same) in
    (b, r.0, r.1)
