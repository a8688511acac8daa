-- `call_replays::replay` meets its contract: each refusal is given at its place in the order, and the table otherwise. Assumes nothing.
use Prim.Native.Nat.{◌≤◌}
use mathlib.Core.Path.{refl, sym, ◌∙◌}
use native.Mathlib.Omega.{arith}
use lib.ListN.{length}
use Rattle.words.specs.Answers.{refused_says, says}
use Rattle.words.specs.Moves.{top_of}
use Rattle.call_judges.proofs.Formed.{formed_good}
use Rattle.call_replays.proofs.Said.{width_inside, long_said, width_said, room_said, entry_said, names_said}
use Rattle.read_edges.proofs.Refused.{too_long_handed}
use Rattle.call_replays.proofs.replay.Goals.{Else-bad_width}
use Rattle.call_replays.proofs.replay.Goals as goal

-- a width that is not refused
wide : (c : Else-bad_width) → let a = c.args in (1 ≤ length a.read.now) × (1 ≤ a.width) × (a.width ≤ top_of (length a.read.now))
wide c = let a = c.args in width_inside (length a.read.now) a.width (sym c.bad_width.ensures ∙ c.if-bad_width.false)

pub returns-in_err-check_length : goal.returns-in_err-check_length
unfolding says refused_says
returns-in_err-check_length c = let l = c.in_err-check_length.ensures.err in rw (too_long_handed _ _ _ c.from_residual.ensures.1 l) (long_said _ _ _ _ l.0)

pub returns-then-bad_width : goal.returns-then-bad_width
unfolding says refused_says
returns-then-bad_width c = width_said _ _ _ _ c.in_ok-check_length.ensures.ok (sym c.bad_width.ensures ∙ c.if-bad_width.true)

pub returns-then-out-long : goal.returns-then-out-long
unfolding says refused_says
returns-then-out-long c = room_said _ _ _ _ c.in_ok-check_length.ensures.ok (sym c.bad_width.ensures ∙ c.if-bad_width.false) c.if-out-long.true

pub returns-then-not-well_formed : goal.returns-then-not-well_formed
unfolding says refused_says
returns-then-not-well_formed c =
    rw c.first_bad-k.ensures
    (entry_said _ _ _ _ c.in_ok-check_length.ensures.ok (sym c.bad_width.ensures ∙ c.if-bad_width.false) c.if-out-long.false (sym c.well_formed-2.ensures ∙ c.if-not-well_formed.true))

pub overflow_cast-width : goal.overflow_cast-width
unfolding top_of
overflow_cast-width c = omega (arith, (wide (goal.at.overflow_cast-width c).Else-bad_width).2, c.in_ok-check_length.ensures.ok)

pub replay_all-requires : goal.replay_all-requires
replay_all-requires c =
    (formed_good _ _ c.in_ok-check_length.ensures.ok (sym c.well_formed-2.ensures ∙ c.if-not-well_formed.false), refl, c.empty_rooms-r.ensures.0, c.empty_rooms-r.ensures.1, (wide (goal.at.replay_all-requires c).Else-bad_width).1)

pub returns : goal.returns
unfolding says refused_says
returns c =
    names_said _ _ _ _ c.in_ok-check_length.ensures.ok (sym c.bad_width.ensures ∙ c.if-bad_width.false) c.if-out-long.false (sym c.well_formed-2.ensures ∙ c.if-not-well_formed.false) _
    (rw (← c.replay_all.ensures.1) c.copy_names.ensures)
