-- `call_primers::find_primer` meets its contract: each return says what document 02 says there. Assumes nothing.
use Rattle.words.proofs.Within.{within_is}
use Rattle.words_primers.proofs.Turning.{GoodLength}
use Rattle.words.proofs.Said.{handed}
use Rattle.read_edges.proofs.Refused.{too_long_handed}
use Rattle.call_primers.proofs.Said.{long_said, judged_said, full_said, places_said}
use Rattle.call_primers.proofs.find_primer.Goals.{In_ok-judge}
use Rattle.call_primers.proofs.find_primer.Goals as goal

-- the length that passed
good : (c : In_ok-judge) → let u = c.args.primer.now in GoodLength u
good c = within_is _ _ _ c.in_ok-judge.ensures.ok.0

pub returns-in_err-check_length : goal.returns-in_err-check_length
returns-in_err-check_length c = let l = c.in_err-check_length.ensures.err in rw (too_long_handed _ _ _ c.from_residual.ensures.1 l) (long_said _ _ _ l.0)

pub returns-in_err-judge : goal.returns-in_err-judge
returns-in_err-judge c = rw (handed _ _ c.from_residual-in_err-judge.ensures.1) (judged_said _ _ _ _ c.in_ok-check_length.ensures.ok c.in_err-judge.ensures.err)

pub scan-count-requires : goal.scan-count-requires
scan-count-requires c = let g = good (goal.at.scan-count-requires c).In_ok-judge in (c.in_ok-check_length.ensures.ok, g.0, g.1)

pub returns-then-out-count : goal.returns-then-out-count
returns-then-out-count c =
    let g = good (goal.at.returns-then-out-count c).In_ok-judge in
    rw c.clear.ensures (full_said _ _ _ c.in_ok-check_length.ensures.ok g.0 g.1 c.in_ok-judge.ensures.ok.1 _ _ c.scan-count.ensures c.if-out-count.true)

pub returns : goal.returns
returns c =
    let g = good (goal.at.returns c).In_ok-judge in
    places_said _ _ _ c.in_ok-check_length.ensures.ok g.0 g.1 c.in_ok-judge.ensures.ok.1 _ _ c.scan-count.ensures c.if-out-count.false
