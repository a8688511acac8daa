-- `marker_calls::shown_part` meets its contract, slice by slice. Assumes nothing.
use mathlib.Core.Path.{sym, ap, ◌∙◌}
use Rattle.std.specs.Prelude.{Some}
use Rattle.words_markers.specs.declared.Shown.{Shown}
use Rattle.marker_calls.proofs.Parts.{house_numbers, read_numbers, no_numbers}
use Rattle.marker_calls.proofs.shown_part.Goals as goal

pub returns-in-Some-House : goal.returns-in-Some-House
returns-in-Some-House c = house_numbers _ _ _ (sym c.place_shown.ensures ∙ c.in-Some-House.is ∙ ap (λ (s : Shown). Some s) c.in-Some-House.field-0-is)

pub returns-in-Some-Read : goal.returns-in-Some-Read
returns-in-Some-Read c = read_numbers _ _ _ (sym c.place_shown.ensures ∙ c.in-Some-Read.is ∙ ap (λ (s : Shown). Some s) c.in-Some-Read.field-0-is)

pub returns-in-None : goal.returns-in-None
returns-in-None c = no_numbers _ _ (sym c.place_shown.ensures ∙ c.in-None.is)
