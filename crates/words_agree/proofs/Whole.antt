-- What the tests of Words.antt say together: how far the whole periods reach, and that what is counted in a stretch lies whole in it. They stand apart, so that
-- a wrong test is refused by the law of its own file. Assumes nothing.
use Prim.Native.Nat.{ℕ, zero, suc, ◌+◌, ◌*◌, ◌≤◌, ◌<◌}
use mathlib.Core.Path.{◌≡◌}
use mathlib.Core.Logic.{⊎_elim}
use mathlib.Core.Bool.{true}
use native.Mathlib.Omega.{arith}
use native.Mathlib.Nat.{mul-le-mul_left}
use Rattle.words.proofs.Tests.{lt_or_ge}
use Rattle.words_agree.specs.Agree.{whole_periods, counts, holds}
use Rattle.words_agree.proofs.Words.{whole_reach, none_whole, counts_is, is_holds}

pub whole_is : (p i b : ℕ) → 1 ≤ p → i ≤ suc b → (i + p * whole_periods p i b ≤ suc b) × (suc b < i + p * suc (whole_periods p i b))
whole_is p i b h l =
    let n : ℕ = whole_periods p i b in
    ((whole_reach p i b n h l).0 (omega arith), ⊎_elim (λ m. m) (λ m. absurd (omega (arith, (whole_reach p i b (suc n) h l).1 m))) (lt_or_ge (suc b) (i + p * suc n)))

-- what is counted in a stretch lies whole in it
pub counts-holds : (a b i p e : ℕ) → counts a b i p e ≡ true → (1 ≤ p) × (holds a b i p e ≡ true)
counts-holds a b i zero e t = let n = counts_is a b i 0 e t in absurd (omega (arith, n.2, n.3, none_whole i b))
counts-holds a b i (suc p) e t =
    let n = counts_is a b i (suc p) e t in
    let far : i + suc p * e ≤ suc b = (whole_reach (suc p) i b e (omega arith) (omega (arith, n.1))).0 (omega (arith, n.3)) in
    let more : suc p * 2 ≤ suc p * e = mul-le-mul_left (suc p) n.2 in
    (omega arith, is_holds a b i (suc p) e (omega (arith, more)) n.0 far)
