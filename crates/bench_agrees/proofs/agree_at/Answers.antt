-- `bench_agrees::agree_at` meets its contract: the table is linked first. Assumes nothing.
use Rattle.bench_links.proofs.Pass.{bare_zeros}
use Rattle.bench_agrees.proofs.agree_at.Goals as goal

pub link-k-requires : goal.link-k-requires
link-k-requires c = bare_zeros
