-- `call_primers::reverse_complement` meets its contract: each return says what document 02 says there. Assumes nothing.
use Rattle.words.proofs.Within.{within_is}
use Rattle.words_primers.proofs.Turning.{GoodLength}
use Rattle.words.proofs.Said.{handed}
use Rattle.call_primers.proofs.Said.{judged-turned, room-turned, letters-turned}
use Rattle.call_primers.proofs.reverse_complement.Goals.{In_ok-judge}
use Rattle.call_primers.proofs.reverse_complement.Goals as goal

-- the length that passed
good : (c : In_ok-judge) → let u = c.args.primer.now in GoodLength u
good c = within_is _ _ _ c.in_ok-judge.ensures.ok.0

pub returns-in_err-judge : goal.returns-in_err-judge
returns-in_err-judge c = rw (handed _ _ c.from_residual.ensures.1) (judged-turned _ _ _ c.in_err-judge.ensures.err)

pub returns-then-out-letters : goal.returns-then-out-letters
returns-then-out-letters c =
    let g = good (goal.at.returns-then-out-letters c).In_ok-judge in
    room-turned _ _ g.0 g.1 c.in_ok-judge.ensures.ok.1 c.if-out-letters.true

pub returns : goal.returns
returns c =
    let g = good (goal.at.returns c).In_ok-judge in
    rw c.reverse.ensures (letters-turned _ _ g.0 g.1 c.in_ok-judge.ensures.ok.1 c.if-out-letters.false)
