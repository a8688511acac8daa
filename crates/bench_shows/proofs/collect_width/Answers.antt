-- `bench_shows::collect_width` meets its contract: room is made for the longest text of such parts, and the text is put there.
use Rattle.std.proofs.Common.{arith}
use Rattle.bench_shows.proofs.Collecting.{text_room, text_collects}
use Rattle.bench_shows.proofs.Lengths.{need_few, need_holds}
use Rattle.bench_shows.proofs.collect_width.Goals as goal

-- the bytes that are made free hold the text, and the buffer has them
pub put_width-end-requires : goal.put_width-end-requires
put_width-end-requires c =
    let t = c.type_inv in
    let h = need_holds _ _ _ _ c.requires.0 c.entries.ensures c.room.ensures c.room-2.ensures _ c.ranges.w.fits
    (λ i. (t.moves i).fits) (λ i. (t.lines i).fits) (λ i. (t.runs i).fits) in
    let f = need_few _ _ _ _ c.requires.0 c.entries.ensures c.room.ensures c.room-2.ensures in
    text_room _ _ h (omega (arith, f, c.requires.1.room)) c.room-o.ensures

pub returns : goal.returns
returns c =
    let t = c.type_inv in
    let h = need_holds _ _ _ _ c.requires.0 c.entries.ensures c.room.ensures c.room-2.ensures _ c.ranges.w.fits
    (λ i. (t.moves i).fits) (λ i. (t.lines i).fits) (λ i. (t.runs i).fits) in
    let f = need_few _ _ _ _ c.requires.0 c.entries.ensures c.room.ensures c.room-2.ensures in
    text_collects _ _ h (omega (arith, f, c.requires.1.room)) c.room-o.ensures c.put_width-end.ensures
