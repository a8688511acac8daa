-- The groups after the positions of a queue Q have moved: from the table t of the old groups alone.
use Rattle.std.specs.Prelude.{ℕ, suc, ◌-◌, ◌≤◌, ◌<◌, ◌≡◌, ◌⊎◌, Bool, ◌&&◌, not, cond, List, [], ◌∷◌, length, leb, eqb}
use Rattle.words.specs.Range.{first, every, count, gather, column, leader}
use Rattle.words.specs.Reads.{at}

-- ---- the queue of a width: the positions left of those of its small groups, by name, then by position

-- the position left of j, if j is in the group named s
unfoldable pub left_at : List ℕ → ℕ → ℕ → List ℕ
left_at t s j = cond (eqb (at t j) s) ((j - 1) ∷ []) []

-- the positions left of those of 2 or more in the group named s, if it is small
unfoldable pub left_of : List ℕ → List ℕ → ℕ → List ℕ
left_of t f s = cond (eqb (at f s) 1) (gather (left_at t s) (length t - 1) 2) []

unfoldable pub queue : List ℕ → List ℕ → List ℕ
queue t f = gather (left_of t f) (length t) 1

-- ---- any queue

-- is position i in the queue?
unfoldable pub has : List ℕ → ℕ → Bool
has Q i = not (every (λ q. not (eqb (at Q q) i)) (length Q) 1)

-- a queue's positions have a right neighbour, and come by the name of its group, then by position
pub record Lined (t Q : List ℕ) : Type 0 where
  pub inside : (q : ℕ) → 1 ≤ q → q ≤ length Q → (1 ≤ at Q q) × (suc (at Q q) ≤ length t)
  pub rises : (q r : ℕ) → 1 ≤ q → q < r → r ≤ length Q
      → (at t (suc (at Q q)) < at t (suc (at Q r))) ⊎ ((at t (suc (at Q q)) ≡ at t (suc (at Q r))) × (at Q q < at Q r))

-- the name under which position i moves; 0 if it stays
unfoldable pub leaves : List ℕ → List ℕ → ℕ → ℕ
leaves t Q i = cond (has Q i) (at t (suc i)) 0

-- i and j share a group afterwards
unfoldable pub together : List ℕ → List ℕ → ℕ → ℕ → Bool
together t Q i j = eqb (at t i) (at t j) && eqb (leaves t Q i) (leaves t Q j)

-- the table afterwards
unfoldable pub next_of : List ℕ → List ℕ → List ℕ
next_of t Q = column (leader (together t Q)) (length t)

-- the least position of the group k that stays; 0 if none does
unfoldable pub stayer : List ℕ → List ℕ → ℕ → ℕ
stayer t Q k = let j = first (λ i. eqb (at t i) k && not (has Q i)) (length t) 1 in cond (leb j (length t)) j 0

-- how many positions of the group k stay
unfoldable pub stayers : List ℕ → List ℕ → ℕ → ℕ
stayers t Q k = count (λ i. eqb (at t i) k && not (has Q i)) (length t) 1
