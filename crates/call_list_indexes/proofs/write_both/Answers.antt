-- `call_list_indexes::write_both` meets its contract: the list is full, or both are written. Assumes nothing.
use Prim.Native.Nat.{◌*◌, ◌≤◌}
use mathlib.Core.Path.{sym}
use native.Mathlib.Omega.{arith}
use lib.ListN.{length}
use lib.Seq.{length-take-le}
use Rattle.words.specs.Rows.{rows}
use Rattle.words.specs.Lists.{line_size}
use Rattle.call_list_indexes.proofs.Said.{full_said, lines-counted, same-room, size_fits, front_in_order, both_said}
use Rattle.call_list_indexes.proofs.write_both.Goals.{After-line_size}
use Rattle.call_list_indexes.proofs.write_both.Goals as goal

-- the lines have room, so that their numbers lie in the slice
few_lines : (c : After-line_size) → c.list_widths-t.result.rows ≤ rows line_size c.args.out.now
few_lines c =
    let w = c in
    let s = w in
    omega (arith, c.if-room-lines.false, c.room.ensures, same-room _ _ _ s.args.index.now s.requires.0 s.requires.1 _ _ w.list_widths-t.ensures.0)

fits : (c : After-line_size) → c.line_size.result * c.list_widths-t.result.rows ≤ length c.list_widths-t.new.out
fits c =
    let w = c in
    let s = w in
    rw c.line_size.ensures (size_fits _ _ _ s.args.index.now s.requires.0 s.requires.1 _ _ w.list_widths-t.ensures.0 (few_lines c))

pub returns-then-room-lines : goal.returns-then-room-lines
returns-then-room-lines c =
    let w = c in
    let s = w in
    let L = w.list_widths-t.ensures.0 in
    rw c.clear.ensures
    (full_said _ _ _ _ s.requires.0 s.requires.1 _ (lines-counted _ _ _ s.args.index.now s.requires.0 s.requires.1 _ _ L)
    (omega (arith, c.if-room-lines.true, c.room.ensures, same-room _ _ _ s.args.index.now s.requires.0 s.requires.1 _ _ L)) _ L.same)

pub overflow_mul-size : goal.overflow_mul-size
overflow_mul-size c = omega (arith, fits (goal.at.overflow_mul-size c).After-line_size, c.list_widths-t.ensures.0.same)

pub index_lines-entries-requires : goal.index_lines-entries-requires
index_lines-entries-requires c =
    let d = c in
    let w = d in
    let s = w in
    rw d.line_size.ensures (front_in_order _ _ _ s.args.index.now s.requires.0 s.requires.1 _ _ w.list_widths-t.ensures.0 (few_lines (goal.at.index_lines-entries-requires c).After-line_size))

pub returns : goal.returns
returns c =
    let d = c in
    let w = d in
    let s = w in
    both_said _ _ _ _ s.requires.0 s.requires.1 _ _ w.list_widths-t.ensures.0 (few_lines (goal.at.returns c).After-line_size) s.requires.2 _ _ (rw d.line_size.ensures at c.index_lines-entries.ensures)

pub slice_bounds-index_lines-end-2 : goal.slice_bounds-index_lines-end-2
slice_bounds-index_lines-end-2 c = sym (length-take-le _ _ (fits (goal.at.slice_bounds-index_lines-end-2 c).After-line_size))

pub slice_bounds-index_lines-end : goal.slice_bounds-index_lines-end
slice_bounds-index_lines-end c = fits (goal.at.slice_bounds-index_lines-end c).After-line_size
