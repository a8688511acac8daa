-- `text_pipes::hand` meets its contract: each write call takes bytes of what is left.
use Rattle.std.proofs.Common.{arith}
use Rattle.text_pipes.proofs.Accounts.{more_inside, took_more}
use Rattle.text_pipes.proofs.hand.Goals as goal

pub overflow_add-done : goal.overflow_add-done
overflow_add-done c =
    let l = c.loop-done in
    omega (arith, more_inside _ _ (omega arith) l.invariant.1 _ c.in-Ok.ensures.took c.in-Ok.ensures.fits)

pub loop-done-preserved : goal.loop-done-preserved
loop-done-preserved c =
    let l = c.loop-done in
    (more_inside _ _ (omega arith) l.invariant.1 _ c.in-Ok.ensures.took c.in-Ok.ensures.fits, took_more _ _ (omega arith) l.invariant.1 _ c.in-Ok.ensures.took c.in-Ok.ensures.fits)
