-- `Places::take_least` meets its contract: the lowest bit of the lowest word that has any is cleared, and that word's bit of the last one if no
-- more is left. Assumes nothing.
use mathlib.Core.Path.{refl}
use native.Mathlib.Omega.{arith}
use Rattle.step2_bits.proofs.Words.{none_empty, word_low, word_full, least_first, taken_kept, taken_lost}
use Rattle.step2_bits.proofs.Places.take_least.Goals.{then-last, else-last}
use Rattle.step2_bits.proofs.Places.take_least.Goals as goal

pub returns-then-words-eq0 : goal.returns-then-words-eq0
returns-then-words-eq0 c = (none_empty _ c.args.self.now.sound c.if-words-eq0.true, refl)

pub bounds-self-at : goal.bounds-self-at
bounds-self-at c = omega (arith, word_low _ c.args.self.now.sound c.if-words-eq0.false)

pub overflow_sub-left : goal.overflow_sub-left
overflow_sub-left c = omega (arith, word_full _ c.args.self.now.sound c.if-words-eq0.false)

pub bounds-self-at-2 : goal.bounds-self-at-2
bounds-self-at-2 c = omega (arith, word_low _ c.args.self.now.sound c.if-words-eq0.false)

pub invariant_of-self : goal.invariant_of-self
invariant_of-self c = record { sound = (taken_lost _ c.args.self.now.sound c.if-words-eq0.false c.if-last.true).0 }

pub invariant_of-self-else-last : goal.invariant_of-self-else-last
invariant_of-self-else-last c = record { sound = (taken_kept _ c.args.self.now.sound c.if-words-eq0.false c.if-last.false).0 }

pub returns : goal.returns
returns c =
    let S = c.args.self.now.sound in
    let some = c.if-words-eq0.false in
    elim c.if-last.branch [
      | then-last w ↦ rw w.self-is (omega arith, least_first _ S some, (taken_lost _ S some w.if-last.true).1)
      | else-last w ↦ rw w.self-is (omega arith, least_first _ S some, (taken_kept _ S some w.if-last.false).1)
    ]
