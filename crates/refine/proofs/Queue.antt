-- The queue by its definition: its positions come by the name of the right neighbour's group, then by position, and they are exactly those
-- whose right neighbour is in a small group. The keys are name * K + position. Assumes nothing.
use Prim.Native.Nat.{ℕ, suc, ◌+◌, ◌-◌, ◌*◌, ◌≤◌, ◌<◌}
use mathlib.Core.Path.{◌≡◌, refl, sym, ap, ◌∙◌}
use mathlib.Core.Logic.{◌⊎◌, inl, inr}
use mathlib.Core.Bool.{Bool, true, false, cond}
use mathlib.Core.List.{List, [], ◌∷◌}
use native.Mathlib.Omega.{arith}
use native.Mathlib.Nat.{mul-le-mul_right}
use lib.ListN.{length, get_or}
use lib.Dec.{eqb}
use borrow.Author.Tests.{eqb-true, eq-eqb}
use Rattle.words.specs.Range.{gather}
use Rattle.words.specs.Rows.{row, rows}
use Rattle.words.specs.Reads.{at}
use Rattle.words.specs.Groups.{Least}
use Rattle.words.proofs.Tests.{lt_or_ge}
use Rattle.words.proofs.Rows.{Rise, end, put, rise_from, rise_to, rise_gather, rise_row, rise_two, rise_full, Has, has_one, has-gather, row_get_or, rows_times}
use Rattle.refine.specs.Refine.{left_at, left_of, queue, has, Lined}
use Rattle.refine.proofs.Queues.{has_is, is_has}

-- a list as rows of one number each
single-rows : (l : List ℕ) → rows 1 l ≡ length l
single-rows l = rows_times 1 l (length l) (omega arith) (omega arith)

single-at : (l : List ℕ) (q i : ℕ) → row 1 l (q - 1) ≡ i ∷ [] → at l q ≡ i
unfolding at
single-at l q i e = ap (λ (k : ℕ). get_or l k 0) (omega arith) ∙ sym (row_get_or 1 l (q - 1) 0 (omega arith)) ∙ ap (λ (r : List ℕ). get_or r 0 0) e

-- keys in order are names in order, then positions
key_order : (K s i r j : ℕ) → i < K → j < K → s * K + i < r * K + j → (s < r) ⊎ ((s ≡ r) × (i < j))
key_order K s i r j a b l = go (lt_or_ge s r) (lt_or_ge r s)
  where
    go : (s < r) ⊎ (r ≤ s) → (r < s) ⊎ (s ≤ r) → (s < r) ⊎ ((s ≡ r) × (i < j))
    go (inl m) n = inl m
    go (inr m) (inl n) = absurd (omega (arith, mul-le-mul_right K n))
    go (inr m) (inr n) = let e : s ≡ r = omega arith in inr (e, omega (arith, ap (λ (v : ℕ). v * K) e))

module _ (t f : List ℕ) where
  abbrev K : ℕ
  K = suc (length t)

  -- position i moves by the rule: its right neighbour is in a small group
  abbrev pub Moves : ℕ → Type 0
  Moves i = (1 ≤ i) × (suc i ≤ length t) × (at f (at t (suc i)) ≡ 1)

  -- the row r is a position that moves, and a is its key
  record Keyed (a : ℕ) (r : List ℕ) : Type 0 where
    i : ℕ
    is : r ≡ i ∷ []
    keyed : a ≡ at t (suc i) * K + i
    moves : Moves i

  rise_at : (s : ℕ) → at f s ≡ 1 → (j : ℕ) → 2 ≤ j → j < 2 + (length t - 1) → Rise 1 Keyed (s * K + (j - 1)) (s * K + (suc j - 1)) (left_at t s j)
  unfolding left_at
  rise_at s small j c d = go (eqb (at t j) s) refl
    where
      go : (b : Bool) → eqb (at t j) s ≡ b → Rise 1 Keyed (s * K + (j - 1)) (s * K + (suc j - 1)) (cond b ((j - 1) ∷ []) [])
      go true e =
          let n : at t (suc (j - 1)) ≡ s = ap (at t) (omega arith) ∙ eqb-true (at t j) s e in
          let m : Moves (j - 1) = (omega arith, omega arith, ap (at f) n ∙ small) in
          let p : Keyed (s * K + (j - 1)) ((j - 1) ∷ []) = record { i = j - 1; is = refl; keyed = ap (λ (v : ℕ). v * K + (j - 1)) (sym n); moves = m } in
          let q : s * K + (j - 1) ≤ s * K + (j - 1) = omega arith in
          let r : suc (s * K + (j - 1)) ≤ s * K + (suc j - 1) = omega arith in
          put q refl p (end r)
      go false e = let q : s * K + (j - 1) ≤ s * K + (suc j - 1) = omega arith in end q

  rise_of : (s : ℕ) → Rise 1 Keyed (s * K) (suc s * K) (left_of t f s)
  unfolding left_of
  rise_of s = go (eqb (at f s) 1) refl
    where
      go : (b : Bool) → eqb (at f s) 1 ≡ b → Rise 1 Keyed (s * K) (suc s * K) (cond b (gather (left_at t s) (length t - 1) 2) [])
      go true e =
          rise_from 1 {mid = s * K + (2 - 1)} (omega arith)
          (rise_to 1 {mid = s * K + (2 + (length t - 1) - 1)} (omega arith)
          (rise_gather 1 (left_at t s) (λ j. s * K + (j - 1)) (length t - 1) 2 (rise_at s (eqb-true (at f s) 1 e))))
      go false e = let q : s * K ≤ suc s * K = omega arith in end q

  rise_queue : Rise 1 Keyed (1 * K) ((1 + length t) * K) (queue t f)
  unfolding queue
  rise_queue = rise_gather 1 (left_of t f) (λ s. s * K) (length t) 1 (λ s a b. rise_of s)

  -- what stands at a place of the queue moves
  moves-at : (q : ℕ) → 1 ≤ q → q ≤ length (queue t f) → Moves (at (queue t f) q)
  moves-at q a b =
      let w = rise_row 1 (omega arith) rise_queue (q - 1) (omega (arith, single-rows (queue t f))) in
      rw (single-at (queue t f) q w.2.i w.2.is) w.2.moves

  pub queue-lined : Lined t (queue t f)
  queue-lined =
      record {
        inside = λ q a b. ((moves-at q a b).0, (moves-at q a b).1);
        rises = λ q r a l b.
            let w = rise_two 1 (omega arith) rise_queue (q - 1) (r - 1) (omega arith) (omega (arith, single-rows (queue t f))) in
            let m = w.3 in
            let n = w.4 in
            rw (single-at (queue t f) q m.i m.is, single-at (queue t f) r n.i n.is)
            (key_order K (at t (suc m.i)) m.i (at t (suc n.i)) n.i (omega (arith, m.moves.1)) (omega (arith, n.moves.1)) (omega (arith, w.2, m.keyed, n.keyed)));
      }

  -- ---- a position is in the queue if and only if its right neighbour is in a small group

  pub queue-moves : (i : ℕ) → has (queue t f) i ≡ true → Moves i
  queue-moves i e =
      let r = has_is (queue t f) i e in
      rw (← r.3) (moves-at r.0 r.1 r.2)

  pub moves-queue : Least t → (i : ℕ) → Moves i → has (queue t f) i ≡ true
  unfolding queue left_of left_at
  moves-queue L i m =
      let e : at (queue t f) (suc whole.0) ≡ i = single-at (queue t f) (suc whole.0) i (ap (row 1 (queue t f)) (omega arith) ∙ whole.2) in
      rw e at (is_has (queue t f) (suc whole.0) (omega arith) (omega (arith, whole.1, single-rows (queue t f))))
    where
      s : ℕ
      s = at t (suc i)

      of_group : Has 1 (left_of t f s) (i ∷ [])
      of_group =
          rw (eq-eqb (at f s) 1 m.2)
          (has-gather 1 (omega arith) (left_at t s) (i ∷ []) (length t - 1) 2 (suc i) (omega (arith, m.0)) (omega (arith, m.1))
          (λ j a b. rise_full 1 (omega arith) (rise_at s m.2 j a b))
          (let z : suc i - 1 ≡ i = omega arith in rw (eq-eqb (at t (suc i)) s refl, z) (has_one 1 (omega arith) (i ∷ []) refl)))

      whole : Has 1 (queue t f) (i ∷ [])
      whole =
          has-gather 1 (omega arith) (left_of t f) (i ∷ []) (length t) 1 s
          (L.low (suc i) (omega arith) m.1) (omega (arith, L.high (suc i) (omega arith) m.1, m.1))
          (λ k a b. rise_full 1 (omega arith) (rise_of k)) of_group
