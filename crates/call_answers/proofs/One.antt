-- An answer of a call that counts returns one value, and `plain` keeps it. Assumes nothing.
use Prim.Native.Nat.{ℕ}
use mathlib.Core.Path.{◌≡◌, refl}
use mathlib.Core.List.{[], ◌∷◌}
use Rattle.std.specs.Prelude.{Result, Ok, Err}
use Rattle.words.specs.declared.Refusal.{Refusal}
use Rattle.words.specs.Answers.{success, refusal, refused_says, says, counted_says}
use Rattle.call_answers.specs.Plain.{plain}

refused_one : (r : Refusal) → (refused_says r).values ≡ (plain (refused_says r)).value ∷ []
unfolding plain refused_says refusal
refused_one (Refusal.TooLong n) = refl
refused_one (Refusal.OutOfRange n) = refl
refused_one (Refusal.ListFull n) = refl
refused_one (Refusal.NoRoom n) = refl
refused_one (Refusal.BadEntry n) = refl
refused_one (Refusal.OutOfPlace n) = refl
refused_one (Refusal.IndexFull n) = refl
refused_one (Refusal.BadLength n) = refl
refused_one (Refusal.Foreign n) = refl
refused_one (Refusal.Missing s) = refl
refused_one (Refusal.MoreThanOnce s) = refl
refused_one Refusal.OutOfOrder = refl
refused_one Refusal.NoRepeat = refl
refused_one Refusal.Several = refl

-- what is returned is the value alone
pub counted_one : (a : Result ℕ Refusal) → (counted_says a).values ≡ (plain (counted_says a)).value ∷ []
unfolding plain success says
counted_one (Ok c) = refl
counted_one (Err r) = refused_one r
