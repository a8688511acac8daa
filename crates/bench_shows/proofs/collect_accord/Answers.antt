-- `bench_shows::collect_accord` meets its contract: room is made for the longer last line, and the one that is so is put there.
use Rattle.std.proofs.Common.{arith}
use Rattle.text_views.proofs.Bounds.{accord_bound}
use Rattle.bench_shows.proofs.Collecting.{text_room, text_collects}
use Rattle.bench_shows.proofs.collect_accord.Goals as goal

pub put_accord-end-requires : goal.put_accord-end-requires
put_accord-end-requires c = text_room _ _ (accord_bound _) (omega arith) c.room-o.ensures

pub returns : goal.returns
returns c = rw (← c.runs_agree-agree.ensures) (text_collects _ _ (accord_bound _) (omega arith) c.room-o.ensures c.put_accord-end.ensures)
