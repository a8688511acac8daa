-- `call_logs::write_log` meets its contract. The loop's invariant has two statements: the rows hold the read's groups and lists at width w, and the widths below w are
-- logged. Assumes nothing.
use mathlib.Core.Path.{◌≡◌}
use lib.ListN.{length}
use Rattle.step3_lists.specs.Waits.{Waiting}
use Rattle.steps.specs.Held.{Stands}
use Rattle.call_logs.specs.Written.{Logging}
use Rattle.call_logs.proofs.write_log.Given as goal

abbrev pub invariant-loop-w : goal.invariant-loop-w
invariant-loop-w l = Stands l.read l.w l.n l.a l.small.words × Waiting l.w l.a × Logging l.read l.initial.out l.w l.k l.out × (length l.out ≡ length l.initial.out)
