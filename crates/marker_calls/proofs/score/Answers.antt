-- `marker_calls::score` meets its contract: the copies of the repeat that is scored are counted, and a refusal stays one. Assumes nothing.
use mathlib.Core.Path.{◌≡◌, sym, ◌∙◌}
use native.Mathlib.Omega.{arith}
use Rattle.std.specs.Prelude.{Ok}
use Rattle.words_markers.specs.Sites.{site}
use Rattle.words_markers.proofs.Truth.{site-inside}
use Rattle.words_markers.proofs.Said.{copies_said, not_said}
use Rattle.words.proofs.Said.{handed}
use Rattle.marker_calls.proofs.score.Goals.{In_ok-i}
use Rattle.marker_calls.proofs.score.Goals as goal

-- the read is scored, at a position in it
scored : (c : In_ok-i) → let a = c.args in
    site a.read.now a.left.now a.right.now a.motif.now ≡ Ok c.in_ok-i.i
scored c = sym c.find_site.ensures ∙ c.in_ok-i.was

pub returns-in_err-i : goal.returns-in_err-i
returns-in_err-i c = rw (handed _ _ c.from_residual.ensures.1) (sym (not_said _ _ _ _ _ _ (sym c.find_site.ensures ∙ c.in_err-i.was)))

pub overflow_cast-i : goal.overflow_cast-i
overflow_cast-i c = omega (arith, site-inside _ _ _ _ _ (scored (goal.at.overflow_cast-i c).In_ok-i))

pub overflow_cast-motif : goal.overflow_cast-motif
overflow_cast-motif c = omega (arith, site-inside _ _ _ _ _ (scored (goal.at.overflow_cast-motif c).In_ok-i))

pub score_of-requires : goal.score_of-requires
score_of-requires c = let n = site-inside _ _ _ _ _ (scored (goal.at.score_of-requires c).In_ok-i) in omega (arith, c.copies_at-copies.ensures, n.2, n.3)

pub returns : goal.returns
returns c = c.score_of.ensures ∙ rw c.copies_at-copies.ensures (sym (copies_said _ _ _ _ _ _ (scored (goal.at.returns c).In_ok-i)))
