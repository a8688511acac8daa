-- `bench_agrees::part_from` meets its contract: the rows up to the end that was found. Assumes nothing.
use mathlib.Core.Path.{refl, ◌∙◌}
use Rattle.bench_agrees.specs.Parts.{part_from}
use Rattle.bench_agrees.proofs.Cuts.{cut_order, cut_rows}
use Rattle.bench_agrees.proofs.part_from.Goals as goal

pub part-requires : goal.part-requires
part-requires c =
    rw c.part_end-end.ensures (cut_order _ _ _ _ _, cut_rows _ _ _ _ _ c.requires.1)

pub returns : goal.returns
unfolding part_from
returns c = c.part.ensures ∙ rw c.part_end-end.ensures refl
