-- `print_repeats::main` meets its contract: the buffers that it makes are large enough, and the list has its room.
use Rattle.std.proofs.Common.{ℕ, refl, arith}
use lib.ListN.{length-replicate}
use Rattle.words.specs.Rows.{rows}
use Rattle.words.specs.Lists.{line_size}
use Rattle.print_repeats.proofs.main.Goals as goal

pub run-requires : goal.run-requires
unfolding rows line_size
run-requires c =
    let line = length-replicate {A = ℕ} 1001 0 in
    let list = length-replicate {A = ℕ} 30000 0 in
    let buf = length-replicate {A = ℕ} 262144 0 in
    (omega (arith, line), record { room = omega (arith, list, buf); inside = omega arith }, refl)
