-- Where the next text goes in the output buffer, and what became of all the text that was made.
use Rattle.std.specs.Prelude.{ℕ, ◌+◌, ◌≡◌, true, false, cond, List, ◌++◌, take, leb}
use Rattle.text_pipes.specs.Accounts.{Account, Write, Stuck}
use Rattle.text_outs.specs.declared.Out.{Out}

-- where a text of at most `need` bytes goes in a buffer of `size` bytes, of which `used` are collected: after them, or to the front if
-- there is no room for it, once they are written out
unfoldable pub next_place : ℕ → ℕ → ℕ → ℕ
next_place need size used = cond (leb (need + used) size) used 0

-- a text is only begun: these are its first bytes, and a write call took nothing more
pub record Begun (out text : List ℕ) : Type 0 where
  pub rest : List ℕ
  pub whole : text ≡ out ++ rest
  pub stuck : Stuck

-- all the text that was made so far is what write calls took and what is collected behind it, or a write failed within it
pub record Told (text buf : List ℕ) (o : Out) : Type 0 where
  pub out : List ℕ
  pub took : Account Write out
  pub whole : o.ok ≡ true → text ≡ out ++ take o.used buf
  pub begun : o.ok ≡ false → Begun out text

-- a text was made behind what was made before: whatever that was, it goes on with this text and nothing else
pub record Adds (buf : List ℕ) (o : Out) (more buf' : List ℕ) (r : Out) : Type 0 where
  pub to : (text : List ℕ) → Told text buf o → Told (text ++ more) buf' r
