-- `call_renames::empty_rooms` meets its contract: new arrays hold nothing. Assumes nothing.
use mathlib.Core.Path.{refl}
use Rattle.refine.proofs.Zeros.{zeros_clean}
use Rattle.call_renames.proofs.empty_rooms.Goals as goal

pub returns : goal.returns
returns c = (refl, record { mark_clean = zeros_clean; lead_clean = zeros_clean; part-long = refl })
