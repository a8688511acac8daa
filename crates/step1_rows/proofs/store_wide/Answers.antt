use borrow.Author.Rules.{rules}
use Rattle.slots.specs.Slots.{put}
use Rattle.step1_rows.specs.Rows.{row, put_at}
use Rattle.step1_rows.proofs.store_wide.Goals as goal

pub returns : goal.returns
unfolding put_at row put
returns c = search rules
