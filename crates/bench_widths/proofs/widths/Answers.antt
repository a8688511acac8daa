-- `bench_widths::widths` meets its contract: half of the length, but 1 of one byte.
use Rattle.bench_widths.proofs.Reaching.{widths_one, widths_half}
use Rattle.bench_widths.proofs.widths.Goals as goal

pub returns-then-n-eq1 : goal.returns-then-n-eq1
returns-then-n-eq1 c = widths_one _ c.if-n-eq1.true

pub returns-else-n-eq1 : goal.returns-else-n-eq1
returns-else-n-eq1 c = widths_half _ c.if-n-eq1.false
