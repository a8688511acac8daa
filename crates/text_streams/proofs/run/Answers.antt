-- `text_streams::run` meets its contract: what is still collected when the lines are through is written.
use Rattle.text_streams.proofs.Programs.{ran}
use Rattle.text_streams.proofs.run.Goals as goal

pub returns : goal.returns
returns g c = ran c.all-o.ensures.1 c.flush.ensures
