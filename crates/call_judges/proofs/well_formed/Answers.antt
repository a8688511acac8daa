-- `call_judges::well_formed` meets its contract: the entries before the first bad one are all of the log or not. Assumes nothing.
use Prim.Native.Nat.{◌*◌}
use mathlib.Core.Path.{◌≡◌, refl}
use native.Mathlib.Omega.{arith}
use Rattle.words.specs.Moves.{move_size}
use Rattle.words.specs.Logs.{first_bad}
use Rattle.call_judges.proofs.Formed.{bad_fits, formed_test}
use Rattle.call_judges.proofs.well_formed.Goals as goal

pub overflow_mul-result : goal.overflow_mul-result
overflow_mul-result c =
    let e : c.move_size.result * c.args.k ≡ move_size * first_bad c.args.n c.args.log.now = rw (c.move_size.ensures, c.requires) refl in
    omega (arith, e, bad_fits c.args.n c.args.log.now)

pub returns : goal.returns
returns c = rw (c.move_size.ensures, c.requires) (formed_test _ _)
