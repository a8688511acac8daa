-- `bench_reads::show` meets its contract: a success is shown and any other answer is a refusal.
use Rattle.std.proofs.Common.{refl, sym, arith}
use lib.Seq.{length-take-le}
use Rattle.bench_reads.proofs.Made.{list_room}
use Rattle.bench_reads.proofs.Heard.{count_told, why_told, why-some, line_few, list_few, list_whole, lines_few, viewed_read, viewed-refused}
use Rattle.bench_reads.proofs.show.Goals as goal

pub slice_bounds-show_read-end : goal.slice_bounds-show_read-end
slice_bounds-show_read-end c =
    let told = count_told _ _ c.in-Ok.is in
    sym (length-take-le _ _ (omega (arith, line_few c.hear.ensures told (omega (arith, c.requires.0)) (omega arith) refl)))

pub show_read-requires : goal.show_read-requires
show_read-requires c =
    let h = c.hear.ensures in
    let told = count_told _ _ c.in-Ok.is in
    let whole = list_whole h told (omega (arith, c.requires.0)) (omega arith) refl in (
      list_few h told (omega (arith, c.requires.0)) (omega arith) refl,
      whole.1,
      whole.0,
      lines_few h told (omega (arith, c.requires.0)) (omega arith) refl list_room,
      c.requires.1,
    )

pub returns-in-Ok : goal.returns-in-Ok
returns-in-Ok c =
    viewed_read c.hear.ensures (count_told _ _ c.in-Ok.is) list_room refl (omega (arith, c.requires.0)) (omega arith) c.show_read.ensures

pub returns-in-Err : goal.returns-in-Err
returns-in-Err c =
    viewed-refused c.hear.ensures (why_told _ _ c.in-Err.is c.refused-a.ensures) list_room (why-some _ c.refused-a.ensures) c.collect_refusal.ensures
