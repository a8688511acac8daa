-- `text_lines::take_part` meets its contract: the part up to the newline is kept and counted. Assumes nothing.
use Prim.Native.Nat.{◌+◌, ◌-◌}
use mathlib.Core.Path.{◌≡◌, ◌∙◌}
use native.Mathlib.Omega.{arith}
use borrow.Author.Rules.{rules}
use lib.ListN.{length, length-drop, take, drop}
use lib.Seq.{take_all}
use Rattle.std.specs.Option.{option_map}
use Rattle.text_lines.specs.Lines.{counted}
use Rattle.text_lines.proofs.Parts.{part_length, part_next, keeps_on}
use Rattle.text_lines.proofs.take_part.Goals as goal

pub returns : goal.returns
unfolding counted
returns c =
    let a = c.args in
    let left : take (length a.chunk.now - a.from) (drop a.from a.chunk.now) ≡ drop a.from a.chunk.now = take_all _ _ (omega (arith, length-drop a.from a.chunk.now)) in
    let next : c.map.result ≡ option_map (λ i. a.from + i + 1) c.newline-found.result = search rules in
    let end = c.unwrap_or-n.ensures ∙ part_length _ _ c.requires left c.newline-found.ensures in
    record {
      next = next ∙ part_next _ _ c.requires left c.newline-found.ensures;
      keeps = keeps_on _ _ c.requires end _ _ c.well_formed.1.1.0.0 (rw left at c.keep.ensures) c.saturating_add.ensures;
    }
