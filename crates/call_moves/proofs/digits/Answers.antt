-- `call_moves::digits` meets its contract: n lies between two powers of 2. Assumes nothing.
use Prim.Native.Nat.{suc}
use native.Mathlib.Omega.{arith}
use native.Mathlib.Nat.{pow-suc}
use Rattle.words.proofs.Sizes.{power_log}
use Rattle.call_moves.proofs.digits.Goals as goal

pub returns : goal.returns
returns c = let p = pow-suc 2 c.ilog2.result in omega (arith, power_log c.args.n (suc c.ilog2.result) (omega arith) (omega arith) (omega arith))
