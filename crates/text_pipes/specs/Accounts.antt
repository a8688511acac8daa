-- What read and write calls moved, one after another: the account that the programs' contracts speak of.
use Rattle.std.specs.Prelude.{ℕ, ◌≤◌, ◌<◌, ◌≡◌, Bool, true, false, List, [], ◌∷◌, ◌++◌, length, take, ℤ, pos, negsuc, eqb, Result, Ok, Err}
use Rattle.std.specs.declared.io.Error.{Error}
use Rattle.io.specs.Counts.{clamp_len}
use Rattle.text_pipes.specs.declared.Unwritten.{Unwritten}

-- what a call that is handed n bytes may answer: -1, or how many bytes it moved, at most n
abbrev pub Moved : ℕ → ℤ → Type 0
Moved n (pos k) = k ≤ n
Moved n (negsuc k) = k ≡ 0

-- a call's answer as a number: how many bytes it moved, or -1
abbrev pub told : Result ℕ Error → ℤ
told (Ok n) = pos n
told (Err e) = negsuc 0

-- the descriptors that a program is started with
abbrev pub standard_input : ℤ
standard_input = pos 0

abbrev pub standard_output : ℤ
standard_output = pos 1

-- A read call on fd left these bytes in its buffer and answered `got`: how many of them it gave, 0 at the end of the input, less where it failed, as it does
-- where fd is not read from. Only the proof of `read` makes one, so nothing but a call gives it.
unfoldable pub Gave : ℤ → List ℕ → ℤ → Type 0
Gave fd bytes got = Moved (length bytes) got

-- A write call on fd was handed these bytes and answered `got`: how many it took, less than 0 where it failed, as it does where fd is not
-- written to. Only the proof of `write` makes one.
unfoldable pub Wrote : ℤ → List ℕ → ℤ → Type 0
Wrote fd bytes got = Moved (length bytes) got

-- one call: the bytes of its buffer, and what it answered
pub record Call : Type 0 where
  pub bytes : List ℕ
  pub got : ℤ

-- the bytes that it moved
abbrev pub moved : Call → List ℕ
moved c = take (clamp_len c.got (length c.bytes)) c.bytes

-- the bytes that calls moved, in their order
abbrev pub moved_by : List Call → List ℕ
moved_by [] = []
moved_by (c ∷ cs) = moved c ++ moved_by cs

-- every one of these calls was made
abbrev pub all : (Call → Type 0) → List Call → Type 0
all Made [] = Unit {0}
all Made (c ∷ cs) = Made c × all Made cs

-- calls of a kind, one after another, moved these bytes
pub record Account (Made : Call → Type 0) (bytes : List ℕ) : Type 0 where
  pub calls : List Call
  pub made : all Made calls
  pub whole : bytes ≡ moved_by calls

-- a read call on standard input
abbrev pub Read : Call → Type 0
Read c = Gave standard_input c.bytes c.got

-- a write call on standard output
abbrev pub Write : Call → Type 0
Write c = Wrote standard_output c.bytes c.got

-- does an answer say that the input has ended?
abbrev pub at_end : ℤ → Bool
at_end (pos k) = eqb k 0
at_end (negsuc k) = false

-- the input has ended: a read call said so
pub record Ended : Type 0 where
  pub bytes : List ℕ
  pub got : ℤ
  pub said : Gave standard_input bytes got
  pub end : at_end got ≡ true

-- a read call failed: it gave nothing, and did not say that the input has ended
pub record Unread : Type 0 where
  pub bytes : List ℕ
  pub got : ℤ
  pub said : Gave standard_input bytes got
  pub none : clamp_len got (length bytes) ≡ 0
  pub more : at_end got ≡ false

-- a write call took nothing
pub record Stuck : Type 0 where
  pub bytes : List ℕ
  pub got : ℤ
  pub said : Wrote standard_output bytes got
  pub none : clamp_len got (length bytes) ≡ 0

-- what was got of a read call on fd: how many bytes it gave, 0 at the end of the input, or that it failed
abbrev pub Asked : ℤ → List ℕ → Result ℕ Error → Type 0
Asked fd bytes r = Gave fd bytes (told r)

-- how many of these bytes a write call on fd took, or that it failed
abbrev pub Put : ℤ → List ℕ → Result ℕ Error → Type 0
Put fd bytes r = Wrote fd bytes (told r)

-- write calls took the first r of these bytes, and one took nothing where some are left
pub record Handed (bytes : List ℕ) (r : ℕ) : Type 0 where
  pub inside : r ≤ length bytes
  pub took : Account Write (take r bytes)
  pub stuck : r < length bytes → Stuck

-- how many of n bytes write calls took: all of them, or those before one that took none
abbrev pub taken : ℕ → Result (Unit {0}) Unwritten → ℕ
taken n (Ok _) = n
taken n (Err u) = u.done
