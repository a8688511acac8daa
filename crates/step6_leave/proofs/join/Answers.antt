-- `join` meets its contract: its stores are the definition, and `change` does the rest. Assumes nothing.
use mathlib.Core.Path.{refl}
use native.Mathlib.Omega.{arith}
use Rattle.step1_rows.proofs.Laws.{long-put}
use Rattle.step3_lists.proofs.Changing.{heads_put}
use Rattle.step6_leave.specs.Gone.{counted_at}
use Rattle.step6_leave.proofs.join.Goals as goal

pub change-requires : goal.change-requires
change-requires c =
    let J = c.requires in
    rw (c.store-2.ensures, c.store.ensures) (
      long-put _ _ _ _ (long-put _ _ _ _ J.long),
      heads_put _ _ _ _ refl (heads_put _ _ _ _ refl J.heads),
      J.low,
      omega (arith, J.behind, J.high),
      omega (arith, J.high),
    )

pub returns : goal.returns
unfolding counted_at
returns c =
    rw (c.store-2.ensures, c.store.ensures, c.load-z.ensures, c.load-c.ensures) at c.change.ensures
