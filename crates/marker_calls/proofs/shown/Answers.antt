-- `marker_calls::shown` meets its contract, slice by slice: the part lies in the slice that the rule says, and is the one that is shown. Assumes nothing.
use mathlib.Core.Path.{◌≡◌, sym, ap, ◌∙◌}
use native.Mathlib.Omega.{arith}
use Rattle.std.specs.Prelude.{Some}
use Rattle.words_markers.specs.Calls.{shown}
use Rattle.words_markers.specs.declared.Shown.{Shown}
use Rattle.words_markers.proofs.Showing.{house_part, read_part}
use Rattle.marker_calls.proofs.Parts.{of_house_lem, of_read, of_nothing}
use Rattle.marker_calls.proofs.shown.Goals.{In-Some-House, In-Some-Read}
use Rattle.marker_calls.proofs.shown.Goals as goal

-- it is of the house list, and lies in it
of-list : (c : In-Some-House) → let a = c.args in
    shown a.read.now a.house.now a.number a.left.now a.right.now a.motif.now ≡ Some (Shown.House c.in-Some-House.from)
of-list c = sym c.place_shown.ensures ∙ c.in-Some-House.is ∙ ap (λ (s : Shown). Some s) c.in-Some-House.field-0-is

-- it is of the read
of-itself : (c : In-Some-Read) → let a = c.args in
    shown a.read.now a.house.now a.number a.left.now a.right.now a.motif.now ≡ Some (Shown.Read c.in-Some-Read.from)
of-itself c = sym c.place_shown.ensures ∙ c.in-Some-Read.is ∙ ap (λ (s : Shown). Some s) c.in-Some-Read.field-0-is

pub overflow_add-result : goal.overflow_add-result
overflow_add-result c = omega (arith, house_part _ _ _ _ _ _ _ (of-list (goal.at.overflow_add-result c).In-Some-House))

pub slice_bounds-result-end : goal.slice_bounds-result-end
slice_bounds-result-end c = (house_part _ _ _ _ _ _ _ (of-list (goal.at.slice_bounds-result-end c).In-Some-House)).0

pub returns-in-Some-House : goal.returns-in-Some-House
returns-in-Some-House c = of_house_lem _ _ _ _ _ (of-list (goal.at.returns-in-Some-House c).In-Some-House)

pub overflow_add-result-in-Some-Read : goal.overflow_add-result-in-Some-Read
overflow_add-result-in-Some-Read c = omega (arith, read_part _ _ _ _ _ _ _ (of-itself (goal.at.overflow_add-result-in-Some-Read c).In-Some-Read))

pub slice_bounds-result-end-in-Some-Read : goal.slice_bounds-result-end-in-Some-Read
slice_bounds-result-end-in-Some-Read c = (read_part _ _ _ _ _ _ _ (of-itself (goal.at.slice_bounds-result-end-in-Some-Read c).In-Some-Read)).0

pub returns-in-Some-Read : goal.returns-in-Some-Read
returns-in-Some-Read c = of_read _ _ _ _ _ (of-itself (goal.at.returns-in-Some-Read c).In-Some-Read)

pub returns-in-None : goal.returns-in-None
returns-in-None c = of_nothing _ _ _ _ (sym c.place_shown.ensures ∙ c.in-None.is)
