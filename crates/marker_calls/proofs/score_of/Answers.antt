-- `marker_calls::score_of` meets its contract: the difference of two small numbers fits. Assumes nothing.
use mathlib.Core.Path.{ap}
use native.Mathlib.Omega.{arith}
use lib.IntN.{ℤ}
use Rattle.words.specs.Answers.{success}
use Rattle.words_markers.specs.Calls.{scored_says, score_of}
use Rattle.marker_calls.proofs.Differences.{difference_is}
use Rattle.marker_calls.proofs.score_of.Goals as goal

pub returns : goal.returns
unfolding scored_says score_of
returns c = ap (λ (d : ℤ). record { answer = success c.args.copies; difference = d }) (difference_is c.args.copies c.args.reference (omega (arith, c.requires)) (omega (arith, c.ranges.reference.fits)))
