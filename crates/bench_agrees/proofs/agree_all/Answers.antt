-- `bench_agrees::agree_all` meets its contract: the lines of all positions are passed, one after another. Assumes nothing.
use Prim.Native.Nat.{ℕ, ◌+◌}
use mathlib.Core.Path.{◌≡◌, sym, ◌∙◌}
use mathlib.Core.List.{List}
use native.Mathlib.Omega.{arith}
use lib.ListN.{length}
use Rattle.std.specs.Prelude.{Result}
use Rattle.words.specs.Range.{gather}
use Rattle.row_matches.specs.Matching.{nothing, at_end, Passes}
use Rattle.row_matches.proofs.Matching.{range_none, range_next, passes_all}
use Rattle.bench_agrees.specs.Agreement.{line_in, lines_in, agrees_at}
use Rattle.bench_agrees.proofs.agree_all.Goals as goal

-- after the last position
all-passed : (t : List ℕ) (p i : ℕ) (lines : List ℕ) (m : Result ℕ ℕ) → length t ≡ i → Passes (gather (line_in t p) i 1) lines nothing m → at_end lines m ≡ agrees_at t p lines
unfolding agrees_at lines_in
all-passed t p i lines m e h = rw e (sym (passes_all h))

pub loop-i-init : goal.loop-i-init
loop-i-init c = rw c.begin-m.ensures (range_none _ _ (omega arith))

pub agree_one-m-requires : goal.agree_one-m-requires
agree_one-m-requires c = (omega arith, omega arith, c.loop-i.invariant.inside)

pub loop-i-preserved : goal.loop-i-preserved
loop-i-preserved c = range_next _ c.loop-i.i 1 (c.loop-i.i + 1) (omega arith) c.loop-i.invariant c.agree_one-m.ensures

pub returns : goal.returns
returns c = c.ended.ensures ∙ all-passed _ _ c.loop-i.i _ c.loop-i.m (omega arith) c.loop-i.invariant
