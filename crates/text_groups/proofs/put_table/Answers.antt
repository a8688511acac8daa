-- `text_groups::put_table` meets its contract: the table is linked, and its two texts are put, one after the other. Assumes nothing.
use Rattle.bench_links.proofs.Pass.{bare_zeros}
use Rattle.text_puts.proofs.Pieces.{both_puts}
use Rattle.text_groups.proofs.put_table.Goals as goal

pub link-k-requires : goal.link-k-requires
link-k-requires c = bare_zeros

pub returns : goal.returns
returns c =
    both_puts _ _ c.requires c.put_groups-next.ensures c.put_alone.ensures
