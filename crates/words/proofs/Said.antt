-- No two answers say the same: a refusal is told by its number and its value, and no success has a refusal's number. Assumes nothing.
use Prim.Native.Nat.{ℕ}
use mathlib.Core.Path.{◌≡◌, refl, sym, ap, ◌∙◌}
use mathlib.Core.Bool.{true, false, cond}
use lib.ListN.{get_or}
use lib.Dec.{eqb}
use Rattle.std.specs.Prelude.{Result, Ok, Err}
use Rattle.std.specs.Result.{IsErrAnd}
use Rattle.words.specs.Answers.{Answer, success, refusal, refused_says, says, counted_says}
use Rattle.words.specs.declared.Refusal.{Refusal}
use Rattle.words.proofs.Tests.{clash}

-- a refusal read back
refusal_of : ℕ → ℕ → Refusal
refusal_of k v =
    cond (eqb k 1) (Refusal.TooLong v)
    (cond (eqb k 2) (Refusal.OutOfRange v)
    (cond (eqb k 3) (Refusal.ListFull v)
    (cond (eqb k 4) (Refusal.NoRoom v)
    (cond (eqb k 5) (Refusal.BadEntry v)
    (cond (eqb k 6) (Refusal.OutOfPlace v)
    (cond (eqb k 7) (Refusal.IndexFull v)
    (cond (eqb k 8) (Refusal.BadLength v)
    (cond (eqb k 9) (Refusal.Foreign v)
    (cond (eqb k 10) (Refusal.Missing v)
    (cond (eqb k 11) (Refusal.MoreThanOnce v)
    (cond (eqb k 12) Refusal.OutOfOrder (cond (eqb k 13) Refusal.NoRepeat Refusal.Several))))))))))))

refused : Answer → Refusal
refused a = refusal_of a.number (get_or a.values 0 0)

refused_back : (r : Refusal) → refused (refused_says r) ≡ r
unfolding refused refusal_of refused_says refusal
refused_back (Refusal.TooLong n) = refl
refused_back (Refusal.OutOfRange w) = refl
refused_back (Refusal.ListFull c) = refl
refused_back (Refusal.NoRoom n) = refl
refused_back (Refusal.BadEntry k) = refl
refused_back (Refusal.OutOfPlace k) = refl
refused_back (Refusal.IndexFull c) = refl
refused_back (Refusal.BadLength k) = refl
refused_back (Refusal.Foreign k) = refl
refused_back (Refusal.Missing s) = refl
refused_back (Refusal.MoreThanOnce s) = refl
refused_back Refusal.OutOfOrder = refl
refused_back Refusal.NoRepeat = refl
refused_back Refusal.Several = refl

-- two refusals that say the same are one
pub refused_once : (r s : Refusal) → refused_says r ≡ refused_says s → r ≡ s
refused_once r s e = sym (refused_back r) ∙ ap refused e ∙ refused_back s

-- one that is handed on by a `?` is the one that is answered
pub handed : {A : Type 0} (r : Result A Refusal) (why : Refusal) → IsErrAnd r (λ e. e ≡ why) → r ≡ Err why
handed (Ok a) why h = absurd h
handed (Err e) why h = ap (λ (w : Refusal). Err w) h

-- none has the number of a success
pub refused-some : (r : Refusal) → eqb (refused_says r).number 0 ≡ false
unfolding refused_says refusal
refused-some (Refusal.TooLong n) = refl
refused-some (Refusal.OutOfRange w) = refl
refused-some (Refusal.ListFull c) = refl
refused-some (Refusal.NoRoom n) = refl
refused-some (Refusal.BadEntry k) = refl
refused-some (Refusal.OutOfPlace k) = refl
refused-some (Refusal.IndexFull c) = refl
refused-some (Refusal.BadLength k) = refl
refused-some (Refusal.Foreign k) = refl
refused-some (Refusal.Missing s) = refl
refused-some (Refusal.MoreThanOnce s) = refl
refused-some Refusal.OutOfOrder = refl
refused-some Refusal.NoRepeat = refl
refused-some Refusal.Several = refl

-- what is told of successes, each under the number 0, and of no two the same
pub record Tells {A : Type 0} (told : A → Answer) : Type 0 where
  pub zero : (a : A) → eqb (told a).number 0 ≡ true
  pub once : (a b : A) → told a ≡ told b → a ≡ b

-- then no two answers of a call say the same
pub said_once : {A : Type 0} (told : A → Answer) → Tells told → (r s : Result A Refusal) → says told r ≡ says told s → r ≡ s
unfolding says
said_once told T (Ok a) (Ok b) e = ap (λ v. Ok v) (T.once a b e)
said_once told T (Ok a) (Err s) e = clash (sym (ap (λ (v : Answer). eqb v.number 0) e) ∙ T.zero a) (refused-some s)
said_once told T (Err r) (Ok b) e = clash (ap (λ (v : Answer). eqb v.number 0) e ∙ T.zero b) (refused-some r)
said_once told T (Err r) (Err s) e = ap (λ v. Err v) (refused_once r s e)

counts : Tells success
unfolding success
counts = record { zero = λ a. refl; once = λ a b e. ap (λ (v : Answer). get_or v.values 0 0) e }

-- no two answers of a call that counts say the same
pub counted_once : (r s : Result ℕ Refusal) → counted_says r ≡ counted_says s → r ≡ s
counted_once r s e = said_once success counts r s e

-- one that says a success is one
pub counted_ok : (r : Result ℕ Refusal) (n : ℕ) → counted_says r ≡ success n → r ≡ Ok n
unfolding says
counted_ok r n e = counted_once r (Ok n) e
