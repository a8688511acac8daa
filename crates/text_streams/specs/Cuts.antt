-- What each step leaves: a read call waited for, and a turn.
use Rattle.std.specs.Prelude.{ℕ, ◌+◌, ◌≤◌, ◌<◌, ◌≡◌, ◌⊎◌, true, false, cond, List, [], ◌++◌, length, take, drop, ltb, ℤ, Option, Some, None}
use Rattle.std.specs.Option.{unwrap_or}
use Rattle.io.specs.Counts.{clamp_len}
use Rattle.text_pipes.specs.Accounts.{Read, Ended, Unread}
use Rattle.text_lines.specs.Lines.{line_end, line_rest, Keeps}
use Rattle.text_outs.specs.Outputs.{Adds}
use Rattle.text_streams.specs.declared.Source.{Source}
use Rattle.text_outs.specs.declared.Out.{Out}
use Rattle.text_streams.specs.declared.State.{State}
use Rattle.text_streams.specs.declared.Next.{Next}

-- the bytes that the last read call gave
unfoldable pub chunk_of : List ℕ → Source → List ℕ
chunk_of input s = take s.end input

-- those that are not taken yet
unfoldable pub pending : List ℕ → Source → List ℕ
pending input s = drop s.from (chunk_of input s)

-- they lie in the input buffer
pub record Within (input : List ℕ) (s : Source) : Type 0 where
  pub order : s.from ≤ s.end
  pub inside : s.end ≤ length input

-- the place of the first newline among the bytes that are not taken yet, or their end
unfoldable pub end_of : List ℕ → Source → ℕ
end_of input s = line_end (chunk_of input s) s.from

-- those bytes up to it
unfoldable pub rest_of : List ℕ → Source → List ℕ
rest_of input s = line_rest (chunk_of input s) s.from

-- a line of len bytes goes on with that many bytes more
abbrev pub filled : ℕ → ℕ → Out → Next
filled count len out =
    record { line = None; state = record { source = record { from = 0; end = count; len = len; more = true }; out = out } }

-- no line follows
abbrev pub stopped : Option ℕ → ℕ → Out → Next
stopped line len out =
    record { line = line; state = record { source = record { from = 0; end = 0; len = len; more = false }; out = out } }

-- a last line of len bytes counts if it is not empty
abbrev pub last_found : ℕ → Option ℕ
last_found len = cond (ltb 0 len) (Some len) None

-- how many bytes the line has that was found, or the line so far
abbrev pub reached : Next → ℕ
reached r = unwrap_or r.line r.state.source.len

-- a read call gave bytes, all of which are still to be taken
pub record Filled (len : ℕ) (out : Out) (input : List ℕ) (r : Next) : Type 0 where
  pub got : ℤ
  pub gave : Read (record { bytes = input; got = got })
  pub turn : r ≡ filled (clamp_len got (length input)) len out

-- the input ended: a line of len bytes counts if it is not empty
pub record Over (len : ℕ) (out : Out) (r : Next) : Type 0 where
  pub ended : Ended
  pub turn : r ≡ stopped (last_found len) len out

-- a read call failed, or a write call before it: the line so far does not count
pub record Broken (len : ℕ) (out : Out) (r : Next) : Type 0 where
  pub why : Unread ⊎ (out.ok ≡ false)
  pub turn : r ≡ stopped None len out

-- a read call was waited for behind a line of len bytes
abbrev pub Waited : ℕ → Out → List ℕ → Next → Type 0
Waited len out input r = Filled len out input r ⊎ (Over len out r ⊎ Broken len out r)

-- a newline ended the line in the bytes that were there: it is found, and the input goes on after the newline
pub record Cut (input : List ℕ) (s : State) (input' : List ℕ) (r : Next) : Type 0 where
  pub newline : end_of input s.source < s.source.end
  pub untouched : input' ≡ input
  pub turn : r ≡ record { line = Some (reached r); state = record { source = record { from = end_of input s.source + 1; end = s.source.end; len = 0; more = true }; out = s.out } }

-- there was none: what was collected was written out, and then a read call waited for
pub record Spent (input buf : List ℕ) (s : State) (input' : List ℕ) (r : Next) : Type 0 where
  pub plain : s.source.end ≤ end_of input s.source
  pub out : Out
  pub empty : out.used ≡ 0
  pub told : Adds buf s.out [] buf out
  pub waited : Waited (reached r) out input' r

-- one turn: the line so far goes on with the bytes that were there, up to a newline
pub record Turned (input line buf : List ℕ) (s : State) (input' line' : List ℕ) (r : Next) : Type 0 where
  pub keeps : (x : List ℕ) → Keeps x s.source.len line → Keeps (x ++ rest_of input s.source) (reached r) line'
  pub goes : Cut input s input' r ⊎ Spent input buf s input' r
