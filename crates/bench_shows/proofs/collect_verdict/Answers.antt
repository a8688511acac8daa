-- `bench_shows::collect_verdict` meets its contract: room is made for the longest such line, and the line is put there.
use Rattle.std.proofs.Common.{arith}
use Rattle.text_views.proofs.Bounds.{verdict-bound}
use Rattle.bench_shows.proofs.Collecting.{text_room, text_collects}
use Rattle.bench_shows.proofs.collect_verdict.Goals as goal

pub put_verdict-end-requires : goal.put_verdict-end-requires
put_verdict-end-requires c = text_room _ _ (verdict-bound _ c.ranges.w.fits) (omega arith) c.room-o.ensures

pub returns : goal.returns
returns c = text_collects _ _ (verdict-bound _ c.ranges.w.fits) (omega arith) c.room-o.ensures c.put_verdict-end.ensures
