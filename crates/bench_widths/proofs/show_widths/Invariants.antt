-- The loop of `bench_widths::show_widths`: the widths before w are collected, and the names are the table of width w.
use Rattle.std.proofs.Common.{◌-◌}
use Rattle.words.specs.Range.{gather}
use Rattle.bench_shows.specs.Collecting.{Collects}
use Rattle.bench_widths.specs.Views.{width_view}
use Rattle.bench_widths.specs.Reaching.{Reached, Replays}
use Rattle.bench_widths.proofs.show_widths.Given as goal

abbrev pub invariant-loop-w : goal.invariant-loop-w
invariant-loop-w l =
    Reached l.read l.w l.p × Replays l.read l.log l.w l.r.name l.r.mark l.r.lead l.r.part l.from
    × Collects l.initial.buf l.initial.p.out (gather (width_view l.read) (l.w - 1) 1) l.buf l.p.out
