-- What the code reads at a place of a table, as the definitions say it of a position. Assumes nothing.
use Prim.Native.Nat.{ℕ, ◌+◌, min}
use mathlib.Core.Path.{◌≡◌}
use mathlib.Core.Bool.{Bool}
use mathlib.Core.List.{List}
use native.Mathlib.Omega.{arith}
use lib.ListN.{get_or}
use lib.Dec.{eqb}
use borrow.Author.Tests.{eq-eqb, eqb-true}
use Rattle.words.specs.Groups.{size}
use Rattle.words.proofs.Tests.{same_test}
use Rattle.bench_links.proofs.Nexts.{at_place}
use Rattle.text_groups.specs.Groups.{shown, alone, single_text}

pub alone_is : (t : List ℕ) (i : ℕ) {v : ℕ} → v ≡ get_or t i 0 → (r : ℕ) → r ≡ min 2 (size t v) → eqb r 1 ≡ alone t (i + 1)
unfolding alone
alone_is t i {v} e r q =
    rw (at_place t i e)
    (same_test (eqb r 1) (eqb (size t v) 1)
    (λ a. eq-eqb (size t v) 1 (omega (arith, q, eqb-true r 1 a)))
    (λ a. eq-eqb r 1 (omega (arith, q, eqb-true (size t v) 1 a))))

pub single_is : (t : List ℕ) (i : ℕ) {b : Bool} → b ≡ alone t (i + 1) → single_text t (i + 1) ≡ shown b (i + 1)
unfolding single_text
single_is t i e = rw (← e)
