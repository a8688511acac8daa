-- How the queue fills, group by group, in the order of the names.
use Rattle.std.specs.Prelude.{ℕ, suc, ◌+◌, ◌-◌, ◌≤◌, ◌≡◌, cond, List, [], ◌∷◌, ◌++◌, length, ltb}
use Rattle.words.specs.Range.{gather}
use Rattle.words.specs.Reads.{at}
use Rattle.words.specs.Groups.{Least, gap}
use Rattle.slots.specs.Slots.{view}
use Rattle.refine.specs.Refine.{left_at}
use Rattle.refine.specs.Phases.{Gaps}
use Rattle.step1_rows.specs.Rows.{row, Long, Only, DIST, QUE}

-- the position left of j, if there is one
unfoldable pub left : ℕ → List ℕ
left j = cond (ltb 1 j) ((j - 1) ∷ []) []

-- the positions left of those of 2 or more in the group named s
unfoldable pub group_of : List ℕ → ℕ → List ℕ
group_of t s = gather (left_at t s) (length t - 1) 2

-- b is a but for its queue, where the list l is put behind the first k, which makes r
pub record Grown (a b : List (List ℕ)) (k r : ℕ) (l : List ℕ) : Type 0 where
  pub long : Long b
  pub only : Only (QUE ∷ []) a b
  pub many : r ≡ k + length l
  pub held : view r (row b QUE) ≡ view k (row a QUE) ++ l

-- the groups t, whose distances a has
pub record Grouped (t : List ℕ) (a : List (List ℕ)) : Type 0 where
  pub long : Long a
  pub few : length t ≤ 1000
  pub least : Least t
  pub gaps : Gaps t (row a DIST)

-- s names a group of t, and there is room for it behind the first k of the queue
pub record Group (t : List ℕ) (a : List (List ℕ)) (s k : ℕ) : Type 0 where
  pub all : Grouped t a
  pub low : 1 ≤ s
  pub high : s ≤ length t
  pub named : at t s ≡ s
  pub room : k + length (group_of t s) ≤ 1000

-- the positions of the group s after s and up to j are done; k₀ of the queue were there, and d is the distance to the next
pub record Walked (t : List ℕ) (s : ℕ) (a₀ : List (List ℕ)) (k₀ : ℕ) (a : List (List ℕ)) (k j d : ℕ) : Type 0 where
  pub grown : Grown a₀ a k₀ k (gather (left_at t s) (j - s) (suc s))
  pub room : k₀ + length (gather (left_at t s) (length t - s) (suc s)) ≤ 1000
  pub low : s ≤ j
  pub high : j ≤ length t
  pub named : at t j ≡ s
  pub next : d ≡ gap t j
