-- `marker_calls::place_shown` meets its contract: the read is scored or not, and the house list has the marker or not. Assumes nothing.
use mathlib.Core.Path.{◌≡◌, sym, ◌∙◌}
use Rattle.std.specs.Prelude.{Ok, Some, None}
use Rattle.words_markers.specs.Sites.{site}
use Rattle.words_markers.specs.declared.Shown.{Shown}
use Rattle.words_markers.proofs.Truth.{site-inside}
use Rattle.words_markers.proofs.Showing.{shows_told, read_shows}
use Rattle.marker_houses.proofs.Places.{at_house, not_house}
use Rattle.marker_calls.proofs.place_shown.Goals.{In-Ok}
use Rattle.marker_calls.proofs.place_shown.Goals as goal

-- the read is scored
scored : (c : In-Ok) → let a = c.args in
    site a.read.now a.left.now a.right.now a.motif.now ≡ Ok c.in-Ok.i
scored c = sym c.find_site.ensures ∙ c.in-Ok.is

pub returns-in_default : goal.returns-in_default
returns-in_default c = sym (shows_told _ _ _ _ _ _ None (_, sym c.find_site.ensures ∙ c.in_default.is))

pub overflow_sub-from : goal.overflow_sub-from
overflow_sub-from c = (site-inside _ _ _ _ _ (scored (goal.at.overflow_sub-from c).In-Ok)).0

pub returns-in-Some : goal.returns-in-Some
returns-in-Some c =
    let w = at_house _ _ _ _ _ c.house_place.ensures c.in-Some.is in
    sym (shows_told _ _ _ _ _ _ (Some (Shown.House _)) (_, scored (goal.at.returns-in-Some c).In-Ok, w.0, w.1))

pub returns-in-None : goal.returns-in-None
returns-in-None c =
    sym (shows_told _ _ _ _ _ _ (Some (Shown.Read _)) (read_shows _ _ _ _ _ _ _ (scored (goal.at.returns-in-None c).In-Ok) (not_house _ _ _ _ c.house_place.ensures c.in-None.is)))
