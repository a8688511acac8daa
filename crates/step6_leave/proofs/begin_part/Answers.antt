-- `begin_part` meets its contract: its stores are the definition, last first. Assumes nothing.
use mathlib.Core.Path.{refl}
use Rattle.step6_leave.specs.Gone.{begun_at}
use Rattle.step6_leave.proofs.begin_part.Goals as goal

pub returns : goal.returns
unfolding begun_at
returns c =
    rw (c.store-4.ensures, c.store-3.ensures, c.store-2.ensures, c.store.ensures) refl
