-- N in a run: there is none. Assumes nothing.
use Prim.Native.Nat.{ℕ, ◌+◌, ◌-◌, ◌≤◌, ◌<◌}
use mathlib.Core.Path.{◌≡◌, ap, ◌∙◌}
use mathlib.Core.Logic.{⊎_elim, ◌≢◌}
use mathlib.Core.Bool.{true}
use mathlib.Core.List.{List}
use native.Mathlib.Omega.{arith}
use Rattle.words.specs.Reads.{at, unread}
use Rattle.words.proofs.Tests.{lt_or_ge}
use Rattle.words.proofs.Letters.{letters_tell}
use Rattle.words_runs.specs.Runs.{run}
use Rattle.words_runs.proofs.Runs.{Run, run_is}

-- no base of a run is unread: each compares as another one, a period before or after it
pub run_read : (x : List ℕ) (a b p : ℕ) → run x a b p ≡ true → (k : ℕ) → a ≤ k → k ≤ b → at x k ≢ unread
run_read x a b p t k l m n = go (run_is x a b p t)
  where
    go : Run x a b p → ⊥
    go r =
        ⊎_elim
        (λ (h : k + p < b + 1). ⊎_elim (λ q. omega (arith, q, r.pos)) (λ s. s.1 n) (letters_tell x k (k + p) (r.period k l (omega arith))))
        (λ (h : b + 1 ≤ k + p).
        let back : k - p + p ≡ k = omega (arith, r.twice) in
        ⊎_elim
        (λ q. omega (arith, q, back, r.pos))
        (λ s. s.1 (s.0 ∙ ap (at x) back ∙ n))
        (letters_tell x (k - p) (k - p + p) (r.period (k - p) (omega (arith, r.twice)) (omega arith))))
        (lt_or_ge (k + p) (b + 1))
