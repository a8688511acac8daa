-- What is answered where refusal 1 is handed on by a `?`. Assumes nothing.
use Prim.Native.Nat.{ℕ, ◌<◌}
use mathlib.Core.Path.{◌≡◌, ap, ◌∙◌}
use mathlib.Core.List.{List}
use lib.ListN.{length}
use Rattle.std.specs.Prelude.{Result, Err}
use Rattle.std.specs.Result.{IsErrAnd}
use Rattle.words.specs.Reads.{most}
use Rattle.words.specs.declared.Refusal.{Refusal}
use Rattle.words.proofs.Said.{handed}

-- the answer is refusal 1 with the read's length
pub too_long_handed : {A : Type 0} (x : List ℕ) (r : Result A Refusal) (why : Refusal) → IsErrAnd r (λ e. e ≡ why) → (most < length x) × (why ≡ Refusal.TooLong (length x)) → r ≡ Err (Refusal.TooLong (length x))
too_long_handed x r why h w = handed r why h ∙ ap (λ (e : Refusal). Err e) w.1
