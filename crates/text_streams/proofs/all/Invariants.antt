-- The loop of `text_streams::all`: what is collected stays inside the buffer, and the lines are answered as at the beginning.
use Rattle.std.proofs.Common.{◌≡◌}
use Rattle.text_streams.specs.Cuts.{Within}
use Rattle.text_streams.specs.Programs.{Stands, Ready}
use Rattle.text_streams.proofs.all.Given as goal

abbrev pub invariant-loop : goal.invariant-loop
invariant-loop g l =
    record {
      within : Within l.input l.s.source;
      ready : Ready (g.A.Answers.need l.by) l.line l.buf l.s.out.used;
      same : g.A.Answers.text l.by ≡ g.A.Answers.text l.initial.by;
      stands : Stands (g.A.Answers.text l.initial.by) l.counter l.input l.line l.buf l.s;
    }
