-- A new array holds nothing. Assumes nothing.
use Prim.Native.Nat.{ℕ, ◌-◌}
use native.Mathlib.Omega.{arith}
use lib.ListN.{replicate, length-replicate, get_or-replicate}
use Rattle.words.specs.Reads.{at}
use Rattle.refine.specs.Phases.{Clean}

pub zeros_clean : Clean (replicate {A = ℕ} 1000 0)
unfolding at
zeros_clean = record { long = length-replicate {A = ℕ} 1000 0; none = λ i a b. get_or-replicate {A = ℕ} 1000 (i - 1) 0 0 (omega arith) }
