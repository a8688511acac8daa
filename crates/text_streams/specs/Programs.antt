-- What a program owes that answers each line of standard input with a text: all that lies between the read calls and the write calls.
use Rattle.std.specs.Prelude.{ℕ, suc, ◌+◌, ◌-◌, ◌^◌, ◌≤◌, ◌≡◌, ◌⊎◌, Bool, true, false, ◌&&◌, List, [], ◌∷◌, ◌++◌, length}
use Rattle.text_pipes.specs.Accounts.{Account, Read, Write, Ended, Unread, Stuck}
use Rattle.text_lines.specs.Lines.{lines_of, Plain, Keeps}
use Rattle.text_streams.specs.Cuts.{Within, pending}
use Rattle.text_outs.specs.Outputs.{Begun, Told, Adds}
use Rattle.text_outs.specs.declared.Out.{Out}
use Rattle.text_streams.specs.declared.State.{State}

-- the texts of lines, one after another
abbrev pub texts : (List ℕ → List ℕ) → List (List ℕ) → List ℕ
texts text [] = []
texts text (x ∷ xs) = text x ++ texts text xs

-- where every program begins
abbrev pub beginning : State
beginning = record { source = record { from = 0; end = 0; len = 0; more = true }; out = record { used = 0; ok = true } }

-- does a program go on?
abbrev pub going : State → Bool
going s = s.source.more && s.out.ok

-- After k turns, each a line answered or a read call: whatever comes, its lines are those that are answered and those of the bytes that are
-- not answered yet, x and what is not taken.
pub record Stands (text : List ℕ → List ℕ) (k : ℕ) (input line buf : List ℕ) (s : State) : Type 0 where
  pub bytes : List ℕ
  pub came : Account Read bytes
  pub answered : List (List ℕ)
  pub turns : length came.calls + length answered ≡ k
  pub x : List ℕ
  pub plain : Plain x
  pub keeps : Keeps x s.source.len line
  pub lines : (more : List ℕ) → lines_of (bytes ++ more) ≡ answered ++ lines_of (x ++ (pending input s.source ++ more))
  pub told : Told (texts text answered) buf s.out

-- why a program stops, and which lines are then left: none, since the input ended; at most the one behind which a read failed; any, since a write
-- failed or the loop had all its turns
abbrev pub Stop : List (List ℕ) → Out → ℕ → Type 0
Stop left o k = ((left ≡ []) × Ended) ⊎ ((length left ≤ 1) × Unread) ⊎ (o.ok ≡ false) ⊎ (2 ^ 64 - 1 ≤ k)

-- a program has stopped: the lines of all that came are those that it answered and those that are left
pub record Stopped (text : List ℕ → List ℕ) (buf : List ℕ) (o : Out) : Type 0 where
  pub bytes : List ℕ
  pub came : Account Read bytes
  pub answered : List (List ℕ)
  pub left : List (List ℕ)
  pub lines : lines_of bytes ≡ answered ++ left
  pub told : Told (texts text answered) buf o
  pub why : Stop left o (length came.calls + length answered)

-- the line buffer tells a read of 1,000 bytes from a longer line, the buffer of the texts has room for one, and what is collected lies in it
pub record Ready (need : ℕ) (line buf : List ℕ) (used : ℕ) : Type 0 where
  pub long : 1001 ≤ length line
  pub room : need ≤ length buf
  pub inside : used ≤ length buf

-- the text of a line of len bytes was collected, whatever line it is
pub record Answered (text : List ℕ → List ℕ) (line : List ℕ) (len : ℕ) (buf : List ℕ) (o : Out) (buf' : List ℕ) (r : Out) : Type 0 where
  pub inside : r.used ≤ length buf
  pub adds : (x : List ℕ) → Keeps x len line → Adds buf o (text x) buf' r

-- a turn of a program, with the line that it found answered: it goes on, or it has stopped
pub record Advances (text : List ℕ → List ℕ) (input line buf : List ℕ) (s : State) (input' line' buf' : List ℕ) (r : State) : Type 0 where
  pub within : Within input' r.source
  pub inside : r.out.used ≤ length buf'
  pub on : (k : ℕ) → Stands text k input line buf s → going r ≡ true → Stands text (suc k) input' line' buf' r
  pub stop : (k : ℕ) → Stands text k input line buf s → going r ≡ false → Stopped text buf' r.out

-- A program ran: read calls gave `bytes`, write calls took `out`, and that is the texts of the lines, in order: of all lines if the input ended
-- and no write failed, else of those before the failure, as far as writing went.
pub record Ran (text : List ℕ → List ℕ) : Type 0 where
  pub bytes : List ℕ
  pub came : Account Read bytes
  pub out : List ℕ
  pub took : Account Write out
  pub answered : List (List ℕ)
  pub left : List (List ℕ)
  pub lines : lines_of bytes ≡ answered ++ left
  pub written : (out ≡ texts text answered) ⊎ Begun out (texts text answered)
  pub why : ((left ≡ []) × Ended) ⊎ ((length left ≤ 1) × Unread) ⊎ Stuck ⊎ (2 ^ 64 - 1 ≤ length came.calls + length answered)
