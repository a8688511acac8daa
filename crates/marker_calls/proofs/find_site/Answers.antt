-- `marker_calls::find_site` meets its contract: what lies between the primers is searched, and what is refused stays refused. Assumes nothing.
use mathlib.Core.Path.{sym, ◌∙◌}
use Rattle.std.specs.Prelude.{Ok}
use Rattle.words_markers.proofs.Seated.{between-inside, seats_exactly}
use Rattle.words_markers.proofs.Truth.{site-between, site-not}
use Rattle.words.proofs.Said.{handed}
use Rattle.marker_calls.proofs.find_site.Goals as goal

pub fit-requires : goal.fit-requires
fit-requires c = between-inside _ _ _ _ _ ((seats_exactly _ _ _ (Ok _)).0 (sym c.seat.ensures ∙ c.in_ok-between.was))

pub returns-in_err-between : goal.returns-in_err-between
returns-in_err-between c = handed _ _ c.from_residual.ensures.1 ∙ sym (site-not _ _ _ _ _ (sym c.seat.ensures ∙ c.in_err-between.was))

pub returns : goal.returns
returns c = c.fit.ensures ∙ sym (site-between _ _ _ _ _ _ (sym c.seat.ensures ∙ c.in_ok-between.was))
