-- `marker_answers::in_twos` meets its contract: the library's bits of a number are two's complement, sign by sign. Assumes nothing.
use mathlib.Core.Path.{◌≡◌, refl, ◌∙◌}
use lib.IntN.{ℤ, pos, negsuc}
use native.Mathlib.Omega.{arith}
use mir.Syntax.{w64}
use mir.Val.{SFits, of_z}
use mir.ValLaws.{to_z-of_z}
use borrow.Author.Rules.{rules}
use Rattle.marker_answers.specs.Scores.{in_twos}
use Rattle.marker_answers.proofs.in_twos.Goals as goal

bits_are : (z : ℤ) → of_z w64 z ≡ in_twos z
unfolding in_twos
bits_are (pos n) = refl
bits_are (negsuc n) = refl

pub returns : goal.returns
returns c =
    let fits : SFits w64 c.args.signed = search rules in
    let bits : c.cast_unsigned.result ≡ of_z w64 c.args.signed = grind (arith, to_z-of_z) in
    bits ∙ bits_are _
