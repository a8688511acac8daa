-- `bench_reads::show_lists` meets its contract: the first line, the widths and the last two lines, which find that list and groups agree, and repeats and runs.
use Rattle.std.proofs.Common.{◌∙◌, length, arith}
use Rattle.bench_reads.specs.Views.{read_view}
use Rattle.bench_shows.proofs.Collecting.{collects_join}
use Rattle.bench_widths.proofs.Reaching.{widths_few}
use Rattle.bench_reads.proofs.Verdict.{verdict_agrees, accord_agrees}
use Rattle.bench_reads.proofs.show_lists.Goals as goal

pub overflow_add-widths : goal.overflow_add-widths
overflow_add-widths c = omega (arith, c.widths.ensures, widths_few (length c.args.read.now) c.requires.0.few)

pub collect_verdict-o-requires : goal.collect_verdict-o-requires
collect_verdict-o-requires c =
    record { room = omega (arith, c.requires.1.room, c.collect_head-o.auto.buf, c.show_widths-p.auto.buf); inside = c.show_widths-p.ensures.1.inside }

pub collect_accord-requires : goal.collect_accord-requires
collect_accord-requires c =
    record {
      room = omega (arith, c.requires.1.room, c.collect_head-o.auto.buf, c.show_widths-p.auto.buf, c.collect_verdict-o.auto.buf);
      inside = c.collect_verdict-o.ensures.inside;
    }

pub returns : goal.returns
unfolding read_view
returns c =
    let own = c.requires.0 in
    let w = c.show_widths-p.ensures in
    collects_join
    (collects_join (collects_join c.collect_head-o.ensures w.1)
    (rw (c.first_differ-differ.ensures ∙ verdict_agrees _ own w.0 c.room.ensures) at c.collect_verdict-o.ensures))
    (rw (accord_agrees own) at c.collect_accord.ensures)
