-- `bench_shows::collect_head` meets its contract: room is made for the longest first line, and the line is put there.
use Rattle.std.proofs.Common.{arith}
use Rattle.text_views.proofs.Bounds.{head_bound}
use Rattle.bench_shows.proofs.Collecting.{text_room, text_collects}
use Rattle.bench_shows.proofs.collect_head.Goals as goal

pub put_head-end-requires : goal.put_head-end-requires
put_head-end-requires c = text_room _ _ (head_bound _ (omega arith)) (omega arith) c.room-o.ensures

pub returns : goal.returns
returns c = text_collects _ _ (head_bound _ (omega arith)) (omega arith) c.room-o.ensures c.put_head-end.ensures
