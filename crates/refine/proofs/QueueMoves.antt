-- The moves of a width are those of its queue, place by place: each position moves under the name of its right neighbour, since inside the
-- group named s every right neighbour has the name s. So the queue is as long as there are moves. Assumes nothing.
use Prim.Native.Nat.{ℕ, zero, suc, ◌+◌, ◌-◌, ◌*◌, ◌≤◌}
use mathlib.Core.Path.{◌≡◌, refl, sym, ap, ◌∙◌}
use mathlib.Core.Bool.{Bool, true, false, cond}
use mathlib.Core.List.{List, [], ◌∷◌, ◌++◌, append_assoc}
use native.Mathlib.Omega.{arith}
use lib.ListN.{length, get_or}
use lib.Dec.{eqb}
use borrow.Author.Tests.{eqb-true}
use Rattle.words.specs.Range.{gather}
use Rattle.words.specs.Reads.{at}
use Rattle.words.specs.Groups.{Least}
use Rattle.words.specs.Moves.{move_of, move_size, move_at, moves_of, moves_in, move_count}
use Rattle.words.proofs.Ranges.{gather-same, gather_along, append-nil}
use Rattle.words.proofs.Sums.{sum_same, sum_const, length-gather, count_le}
use Rattle.words.proofs.MoveLayout.{move_length}
use Rattle.words.proofs.Room.{moves_in_length}
use Rattle.refine.specs.Refine.{left_at, left_of, queue}

module _ (g : ℕ → List ℕ) where
  -- what g gives at each number of a list, one after another
  spread : List ℕ → List ℕ
  spread [] = []
  spread (i ∷ l) = g i ++ spread l

  spread_append : (l m : List ℕ) → spread (l ++ m) ≡ spread l ++ spread m
  unfolding spread
  spread_append [] m = refl
  spread_append (i ∷ l) m = ap (λ (v : List ℕ). g i ++ v) (spread_append l m) ∙ sym (append_assoc (g i) (spread l) (spread m))

  spread_gather : (f : ℕ → List ℕ) (d j : ℕ) → spread (gather f d j) ≡ gather (λ k. spread (f k)) d j
  unfolding gather spread
  spread_gather f zero j = refl
  spread_gather f (suc d) j = spread_append (f j) (gather f d (suc j)) ∙ ap (λ (v : List ℕ). spread (f j) ++ v) (spread_gather f d (suc j))

at_next : (i : ℕ) (l : List ℕ) (q : ℕ) → 1 ≤ q → at (i ∷ l) (suc q) ≡ at l q
unfolding at
at_next i l q h = let e : suc q - 1 ≡ suc (q - 1) = omega arith in ap (λ (k : ℕ). get_or (i ∷ l) k 0) e

spread_places : (g : ℕ → List ℕ) (l : List ℕ) → spread g l ≡ gather (λ q. g (at l q)) (length l) 1
unfolding spread gather
spread_places g [] = refl
spread_places g (i ∷ l) =
    ap (λ (v : List ℕ). g i ++ v)
    (spread_places g l
    ∙ gather_along (λ q. g (at l q)) (λ q. g (at (i ∷ l) q)) (length l) 1 2 (λ k b. ap g (sym (at_next i l (1 + k) (omega arith))) ∙ ap (λ (v : ℕ). g (at (i ∷ l) v)) (omega arith)))
    ∙ ap (λ (v : ℕ). g v ++ gather (λ q. g (at (i ∷ l) q)) (length l) 2) (unfold at in refl)

module _ (w : ℕ) (t f : List ℕ) where
  -- position i moves under the name of its right neighbour
  moving : ℕ → List ℕ
  moving i = move_of w (at t (suc i)) i

  spread_at : (s j : ℕ) → 1 ≤ j → spread moving (left_at t s j) ≡ move_at w t s j
  unfolding left_at move_at spread moving
  spread_at s j h = go (eqb (at t j) s) refl
    where
      go : (b : Bool) → eqb (at t j) s ≡ b → spread moving (cond b ((j - 1) ∷ []) []) ≡ cond b (move_of w s (j - 1)) []
      go true e =
          let n : at t (suc (j - 1)) ≡ s = ap (at t) (omega arith) ∙ eqb-true (at t j) s e in
          append-nil (move_of w (at t (suc (j - 1))) (j - 1)) ∙ ap (λ (v : ℕ). move_of w v (j - 1)) n
      go false e = refl

  spread_of : (s : ℕ) → spread moving (left_of t f s) ≡ moves_of w t f s
  unfolding left_of moves_of spread
  spread_of s = go (eqb (at f s) 1)
    where
      go : (b : Bool) → spread moving (cond b (gather (left_at t s) (length t - 1) 2) []) ≡ cond b (gather (move_at w t s) (length t - 1) 2) []
      go true =
          spread_gather moving (left_at t s) (length t - 1) 2
          ∙ gather-same (λ j. spread moving (left_at t s j)) (move_at w t s) (length t - 1) 2 (λ j a b. spread_at s j (omega arith))
      go false = refl

  pub moves-queue-places : moves_in w t f ≡ gather (λ q. move_of w (at t (suc (at (queue t f) q))) (at (queue t f) q)) (length (queue t f)) 1
  unfolding moves_in queue moving
  moves-queue-places =
      sym
      (gather-same (λ s. spread moving (left_of t f s)) (moves_of w t f) (length t) 1 (λ s a b. spread_of s))
      ∙ sym (spread_gather moving (left_of t f) (length t) 1)
      ∙ spread_places moving (gather (left_of t f) (length t) 1)

module _ (t f : List ℕ) (L : Least t) where
  pub queue-length : length (queue t f) ≡ move_count t f
  unfolding move_size
  queue-length =
      let Q = queue t f in
      let m : ℕ → List ℕ = λ q. move_of 0 (at t (suc (at Q q))) (at Q q) in
      let each : length (moves_in 0 t f) ≡ length Q * move_size =
      ap length (moves-queue-places 0 t f) ∙ length-gather m (length Q) 1
      ∙ sum_same (λ q. length (m q)) (λ q. move_size) (length Q) 1 (λ q a b. move_length 0 (at t (suc (at Q q))) (at Q q)) ∙ sum_const move_size (length Q) 1 in
      omega (arith, each, moves_in_length t f L 0)

  pub queue_short : length (queue t f) ≤ length t - 1
  unfolding move_count
  queue_short = omega (arith, queue-length, count_le (λ j. eqb (at f (at t j)) 1) (length t - 1) 2)
