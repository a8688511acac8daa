-- The loop of `text_pipes::hand`: what is taken so far; the measure is what is left.
use Rattle.std.proofs.Common.{length, ◌-◌, ◌≤◌, take}
use Rattle.text_pipes.specs.Accounts.{Account, Write}
use Rattle.text_pipes.proofs.hand.Given as goal

abbrev pub invariant-loop-done : goal.invariant-loop-done
invariant-loop-done l = (l.done ≤ length l.bytes) × Account Write (take l.done l.bytes)

abbrev pub decreases-loop-done : goal.decreases-loop-done
decreases-loop-done l = length l.bytes - l.done
