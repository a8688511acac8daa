-- `marker_answers::scored` meets its contract, case by case. Assumes nothing.
use mathlib.Core.Path.{◌≡◌, refl}
use borrow.Author.Rules.{rules}
use mir.Syntax.{w32}
use mir.Val.{of_z, to_z}
use mir.ValLaws.{to_z-of_z}
use Rattle.words.specs.Answers.{success}
use Rattle.words_markers.specs.Calls.{scored_says}
use Rattle.marker_answers.specs.Scores.{plain_score}
use Rattle.marker_answers.proofs.scored.Goals as goal

pub returns-in-Ok : goal.returns-in-Ok
unfolding plain_score scored_says success
returns-in-Ok c =
    let back : to_z w32 (of_z w32 c.in-Ok.score.difference) ≡ c.in-Ok.score.difference = to_z-of_z w32 _ (record { sfits = search rules }) in
    rw (c.in_twos.ensures, c.in-Ok.is, back) refl
