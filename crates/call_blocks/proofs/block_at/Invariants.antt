-- `call_blocks::block_at` meets its contract. The loop's invariant: the lines from k to below j have one period. Assumes nothing.
use mathlib.Core.Path.{◌≡◌}
use Rattle.words.specs.Rows.{rows}
use Rattle.words.specs.Lists.{line_size, period_of}
use Rattle.call_blocks.proofs.Growing.{Grows}
use Rattle.call_blocks.proofs.block_at.Given as goal

abbrev pub invariant-loop-j : goal.invariant-loop-j
invariant-loop-j l = (l.count ≡ rows line_size l.list) × (l.p ≡ period_of l.list l.k) × Grows l.list l.k l.j l.most
