-- `call_widths::run_widths` meets its contract: a look at the runs. Assumes nothing.
use Rattle.call_widths.proofs.Seen.{listing_runs}
use Rattle.call_widths.proofs.run_widths.Goals as goal

pub returns : goal.returns
returns c = listing_runs _ _ _ _ c.look_widths.ensures.0
