-- Text collected behind text, where what was collected before may be written out in between.
use Rattle.std.specs.Prelude.{ℕ, ◌≤◌, ◌≡◌, List, length}
use Rattle.text_outs.specs.Outputs.{Adds}
use Rattle.text_outs.specs.declared.Out.{Out}

-- room for the text of any width of a read, in bytes
abbrev pub longest : ℕ
longest = 170000

-- the buffer has room for any text, and what is collected lies in it
pub record Roomy (buf : List ℕ) (used : ℕ) : Type 0 where
  pub room : longest ≤ length buf
  pub inside : used ≤ length buf

-- a text was made behind what was made before, and what is collected lies in the buffer
pub record Collects (buf : List ℕ) (o : Out) (text after : List ℕ) (r : Out) : Type 0 where
  pub same : length after ≡ length buf
  pub inside : r.used ≤ length after
  pub adds : Adds buf o text after r
