-- `bench_shows::collect_refusal` meets its contract: room is made for the longest refusal, and it is put there.
use Rattle.std.proofs.Common.{arith}
use Rattle.text_answers.proofs.Bounds.{refusal-bound}
use Rattle.bench_shows.proofs.Collecting.{text_room, text_collects}
use Rattle.bench_shows.proofs.collect_refusal.Goals as goal

pub put_refused-end-requires : goal.put_refused-end-requires
put_refused-end-requires c = text_room _ _ (refusal-bound _ _ c.requires.0 c.ranges.value.fits) (omega arith) c.room-o.ensures

pub returns : goal.returns
returns c = text_collects _ _ (refusal-bound _ _ c.requires.0 c.ranges.value.fits) (omega arith) c.room-o.ensures c.put_refused-end.ensures
