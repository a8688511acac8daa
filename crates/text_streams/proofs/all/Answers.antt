-- `text_streams::all` meets its contract: what is collected stays inside the buffer.
use Rattle.std.proofs.Common.{arith, inr, refl}
use borrow.Author.Rules.{rules}
use Rattle.text_streams.proofs.Programs.{stands-first, stands_stop}
use Rattle.text_streams.proofs.all.Goals as goal

pub loop-init : goal.loop-init
loop-init g c =
    rw c.begin-s.ensures
    (record {
      within = record { order = omega arith; inside = omega arith };
      ready = c.requires;
      same = refl;
      stands = stands-first _ _ _ _;
    })

pub returns-then-over : goal.returns-then-over
returns-then-over g c =
    let l = c.loop in
    let s = rw l.invariant.same at c.step-s.ensures.advances in
    (s.inside, s.stop _ l.invariant.stands (search rules))

pub returns : goal.returns
returns g c = let l = c.loop in (l.invariant.ready.inside, stands_stop l.invariant.stands (inr (omega arith)))
