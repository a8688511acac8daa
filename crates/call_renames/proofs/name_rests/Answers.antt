-- `call_renames::name_rests` meets its contract: each position that stays has its name after its turn. Assumes nothing.
use native.Mathlib.Omega.{arith}
use Rattle.call_renames.proofs.Stayers.{stayed_start, stayed_turn}
use Rattle.call_renames.proofs.name_rests.Goals as goal

pub loop-i-init : goal.loop-i-init
loop-i-init c = stayed_start _ _ _ _ c.requires.0 c.requires.1

pub loop-i-preserved : goal.loop-i-preserved
loop-i-preserved c = stayed_turn _ _ _ _ _ _ _ _ _ c.loop-i.invariant c.name_stayer.ensures c.loop-i.auto.i (omega arith) (omega arith)

-- after the turn of n
pub returns-2 : goal.returns-2
returns-2 c = stayed_turn _ _ _ _ _ _ _ _ _ c.loop-i.invariant c.name_stayer.ensures c.loop-i.auto.i (omega arith) (omega arith)
